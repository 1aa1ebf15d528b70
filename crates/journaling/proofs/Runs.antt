-- The answers of a run told one after another.
use Rattle.std.proofs.Common.{◌≡◌, ℕ, zero, suc, ◌+◌, ◌<◌, ◌≤◌, List, [], ◌∷◌, ◌++◌, length, get_or, Some, None, vec_items, codes, sym, refl, ap, ◌∙◌, subst, ⊎_elim, add-one, arith}
use Rattle.std.specs.List.{range_with_len, flat_map}
use Rattle.std.proofs.lemmas.Bool.{cases_lt}
use Rattle.replay.specs.declared.calls.Answer.{Answer}
use Rattle.replay.specs.declared.calls.Call.{Call}
use Rattle.replay.specs.declared.calls.Call.TheVariants.{Release}
use Rattle.replay.specs.History.{before, deeds, call, said}
use Rattle.replay.specs.Law.{Answered, Right, Law}
use Rattle.replay.specs.State.{Sound}
use Rattle.replay.proofs.Sound.{sound_more}
use Rattle.text.specs.Texts.{lines}
use Rattle.journaling.specs.declared.ledger.Ledger.{Ledger}
use Rattle.journaling.specs.Answers.{answer_text}
use Rattle.journaling.specs.Calls.{LineCall, LineCalls, ReadsCall}
use Rattle.journaling.specs.Doors.{standing, Kept, Follows}
use Rattle.journaling.specs.Journal.{answer_line, answer_lines, ending, Journal, journal_text, Ran}
use Rattle.journaling.proofs.Tallies.{lines_more}

-- the answers before i are told, and the ledger is that of the history before call i
pub record ToldTo (n : ℕ) (calls : List Call) (answers : List Answer) (i : ℕ) (text : List ℕ) (l : Ledger) : Type 0 where
  pub ls : List (List ℕ)
  pub few : length ls ≤ 96
  pub answered : Answered ls calls answers
  pub sound : Sound ls (before calls answers i)
  pub kept : Kept n (before calls answers i) l
  pub told : text ≡ flat_map (answer_line n calls answers) (range_with_len 0 i)

module _ (n : ℕ) (calls : List Call) (answers : List Answer) where
  pub told_none : (text : List ℕ) (l : Ledger) → Ran calls answers → text ≡ [] → Kept n [] l → ToldTo n calls answers 0 text l
  unfolding before
  told_none text l r e k = record { ls = r.0; few = r.1; answered = r.2; sound = tt; kept = k; told = e }

  module _ (i : ℕ) (text : List ℕ) (l : Ledger) (t : ToldTo n calls answers i text l) where
    pub told_more : (text' : List ℕ) (l' : Ledger) (st : List _) (c : Call) (a : Answer) → i < length answers → c ≡ call calls i → a ≡ said answers i
        → st ≡ vec_items l.standing → text' ≡ text ++ (answer_text st a ++ codes "\n") → Follows (deeds c a) l l' → ToldTo n calls answers (i + 1) text' l'
    unfolding before Follows
    told_more text' l' st c a h ec ea es et f =
        let history = before calls answers i in
        let within : i < length calls = omega (arith, t.answered.each) in
        let more = sound_more t.ls history (call calls i) (said answers i) t.sound (t.answered.right i within) in
        let follows : Follows (deeds (call calls i) (said answers i)) l l' = subst (λ y. Follows (deeds (call calls i) y) l l') ea (subst (λ x. Follows (deeds x a) l l') ec f) in
        let line : text' ≡ text ++ answer_line n calls answers i =
        et ∙ ap (λ s. text ++ (answer_text s a ++ codes "\n")) (es ∙ t.kept.stand) ∙ ap (λ x. text ++ (answer_text (standing n history) x ++ codes "\n")) ea in
        subst (λ k. ToldTo n calls answers k text' l') (sym (add-one i)) (record {
          ls = t.ls;
          few = t.few;
          answered = t.answered;
          sound = more;
          kept = follows n t.ls history t.few t.sound more t.kept;
          told = lines_more (answer_line n calls answers) 0 i (suc i) i [] text text' refl (omega arith) t.told line;
        })

    pub told_all : i ≡ length answers → (text ≡ answer_lines n calls answers) × Kept n (ending calls answers) l
    unfolding answer_lines
    told_all e = (t.told ∙ ap (λ k. flat_map (answer_line n calls answers) (range_with_len 0 k)) e, subst (λ k. Kept n (before calls answers k) l) e t.kept)

-- a line is not both read and not read
not_both : (n : ℕ) (line : List ℕ) (c : Call) → ReadsCall n line (Some c) → ReadsCall n line None → ⊥
not_both n line c s n' =
    ⊎_elim
    (λ (h : 128 < length line). let z : ◌≡◌ {A = ℕ} 0 1 = cc (s.long h) in omega arith)
    (λ (h : length line ≤ 128). let says = s.short h in n'.short h c says.0 says.1)
    (cases_lt 128 (length line))

-- the call of a line that is not read
unread_call : (n : ℕ) (line : List ℕ) (c : Call) → LineCall n line c → ReadsCall n line None → c ≡ Release 0
unread_call n line c (None, r, e) u = e
unread_call n line c (Some d, r, e) u = absurd (not_both n line d r u)

unread_calls : (n : ℕ) (ls : List (List ℕ)) (cs : List Call) (i : ℕ) → LineCalls n ls cs → i < length ls → ReadsCall n (get_or ls i []) None → (call cs i ≡ Release 0) × (i < length cs)
unread_calls n [] cs i m h u = absurd (omega arith)
unread_calls n (l ∷ ls) [] i m h u = absurd m
unread_calls n (l ∷ ls) (c ∷ cs) zero m h u = (unread_call n l c m.0 u, omega arith)
unread_calls n (l ∷ ls) (c ∷ cs) (suc i) m h u = let rest = unread_calls n ls cs i m.1 (omega arith) u in (rest.0, omega (arith, rest.1))

pub journal_told : (ls : List (List ℕ)) (input text : List ℕ) (calls : List Call) (answers : List Answer) → LineCalls (length ls) (lines input) calls → Law ls calls answers → text ≡ journal_text (length ls) calls answers → Journal ls input text
journal_told ls input text calls answers m law e = record {
  calls = calls;
  answers = answers;
  made = m;
  law = law;
  unread = λ i h u.
      let at = unread_calls (length ls) (lines input) calls i m h u in
      subst (λ c. Right ls (before calls answers i) c (said answers i)) at.0 (law.answered.right i at.1);
  told = e;
}
