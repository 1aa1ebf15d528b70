-- The lines of a journal, one after another.
use Rattle.std.proofs.Common.{◌≡◌, ℕ, List, [], ◌∷◌, ◌++◌, sym, refl, ap, ◌∙◌, subst}
use Rattle.std.proofs.lemmas.List.{append_assoc, append-nil}
use Rattle.journaling.specs.Calls.{LineCall, LineCalls}
use Rattle.replay.specs.declared.calls.Call.{Call}
use Rattle.text.specs.Texts.{lines}

calls_push : (n : ℕ) (ls : List (List ℕ)) (cs : List Call) (l : List ℕ) (c : Call) → LineCalls n ls cs → LineCall n l c → LineCalls n (ls ++ (l ∷ [])) (cs ++ (c ∷ []))
calls_push n [] [] l c h k = (k, tt)
calls_push n [] (d ∷ cs) l c h k = absurd h
calls_push n (m ∷ ls) [] l c h k = absurd h
calls_push n (m ∷ ls) (d ∷ cs) l c h k = (h.0, calls_push n ls cs l c h.1 k)

-- the lines before what is left of a text make the calls so far
pub record ReadTo (n : ℕ) (text rest : List ℕ) (cs : List Call) : Type 0 where
  pub read : List (List ℕ)
  pub split : lines text ≡ read ++ lines rest
  pub calls : LineCalls n read cs

pub read_none : (n : ℕ) (text : List ℕ) (cs : List Call) → cs ≡ [] → ReadTo n text text cs
read_none n text cs e = record { read = []; split = refl; calls = subst (LineCalls n []) (sym e) tt }

pub read_more : (n : ℕ) (text rest after line : List ℕ) (cs cs' : List Call) (c : Call) → ReadTo n text rest cs → lines rest ≡ line ∷ lines after → LineCall n line c → cs' ≡ cs ++ (c ∷ []) → ReadTo n text after cs'
read_more n text rest after line cs cs' c r first k e = record {
  read = r.read ++ (line ∷ []);
  split = r.split ∙ ap (λ ls. r.read ++ ls) first ∙ sym (append_assoc r.read (line ∷ []) (lines after));
  calls = subst (LineCalls n (r.read ++ (line ∷ []))) (sym e) (calls_push n r.read cs line c r.calls k);
}

pub read_all : (n : ℕ) (text rest : List ℕ) (cs : List Call) → ReadTo n text rest cs → rest ≡ [] → LineCalls n (lines text) cs
read_all n text rest cs r e = subst (λ ls. LineCalls n ls cs) (sym (r.split ∙ ap (λ l. r.read ++ lines l) e ∙ append-nil r.read)) r.calls
