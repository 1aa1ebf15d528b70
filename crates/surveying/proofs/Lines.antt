-- The lines of a text, one after another.
use Rattle.std.proofs.Common.{◌≡◌, ℕ, ◌+◌, ◌<◌, ◌≤◌, Bool, true, false, not, List, [], ◌∷◌, ◌++◌, map, length, get_or, take, Some, None, filter, sym, refl, ap, ◌∙◌, subst, arith}
use Rattle.std.specs.List.{AllByRecursion}
use Rattle.std.proofs.lemmas.List.Elements.{filter-append}
use Rattle.std.proofs.ByRecursion.{All-push}
use Rattle.std.proofs.lemmas.List.{append_assoc, append-nil, length-append, length_push, get_or_at, take_at, map_push}
use Rattle.std.proofs.lemmas.Bool.{cond-true, cond-false, not_from_true, not_from_false}
use Rattle.survey.specs.declared.Record.{Record}
use Rattle.text.specs.Texts.{lines}
use Rattle.surveying.specs.Survey.{passed, record_text, InRange, ReadsRecord, Says, MalformedAt}

abbrev keeps : List ℕ → Bool
keeps l = not (passed l)

-- the lines before what is left of a text say the records so far
pub record ReadTo (text rest : List ℕ) (number : ℕ) (rs : List Record) : Type 0 where
  pub read : List (List ℕ)
  pub split : lines text ≡ read ++ lines rest
  pub counted : length read ≡ number
  pub says : Says read rs
  pub short : number + length rest ≤ length text

pub read_none : (text : List ℕ) (rs : List Record) → rs ≡ [] → ReadTo text text 0 rs
read_none text rs e =
    record { read = []; split = refl; counted = refl; says = record { texts = ap (map record_text) (sym e); in_range = subst (AllByRecursion InRange) (sym e) tt }; short = omega arith }

pub read_all : {text : List ℕ} (rest : List ℕ) {number : ℕ} {rs : List Record} → ReadTo text rest number rs → rest ≡ [] → Says (lines text) rs
read_all {text} [] {number} {rs} r e = subst (λ ls. Says ls rs) (sym (r.split ∙ append-nil r.read)) r.says
read_all {text} (c ∷ rest) {number} {rs} r e = absurd (omega (arith, ap length e))

module _ {text rest : List ℕ} {number : ℕ} {rs : List Record} (r : ReadTo text rest number rs) {line : List ℕ} (after : List ℕ) (first : lines rest ≡ line ∷ lines after) (less : length after < length rest) where
  moved : lines text ≡ (r.read ++ (line ∷ [])) ++ lines after
  moved = r.split ∙ ap (λ ls. r.read ++ ls) first ∙ sym (append_assoc r.read (line ∷ []) (lines after))

  more : (rs' : List Record) → Says (r.read ++ (line ∷ [])) rs' → ReadTo text after (number + 1) rs'
  more rs' s = record {
    read = r.read ++ (line ∷ []);
    split = moved;
    counted = length_push r.read line ∙ ap (λ n. n + 1) r.counted;
    says = s;
    short = omega (arith, r.short);
  }

  pub read_passed : passed line ≡ true → ReadTo text after (number + 1) rs
  read_passed p = more rs (record {
    texts = filter-append keeps r.read (line ∷ []) ∙ ap (λ ls. filter keeps r.read ++ ls) (cond-false (keeps line) (line ∷ []) [] (not_from_true (passed line) p)) ∙ append-nil (filter keeps r.read) ∙ r.says.texts;
    in_range = r.says.in_range;
  })

  pub record_is_read : (rs' : List Record) (x : Record) → passed line ≡ false → ReadsRecord line (Some x) → rs' ≡ rs ++ (x ∷ []) → ReadTo text after (number + 1) rs'
  record_is_read rs' x p h e = more rs' (record {
    texts = filter-append keeps r.read (line ∷ []) ∙ ap (λ ls. filter keeps r.read ++ ls) (cond-true (keeps line) (line ∷ []) [] (not_from_false (passed line) p) ∙ ap (λ l. l ∷ []) h.1) ∙ ap (λ ls. ls ++ (record_text x ∷ [])) r.says.texts ∙ sym (map_push record_text rs x) ∙ ap (map record_text) (sym e);
    in_range = subst (AllByRecursion InRange) (sym e) (All-push InRange rs x r.says.in_range h.0);
  })

  pub read_malformed : passed line ≡ false → ReadsRecord line None → MalformedAt (lines text) (number + 1)
  read_malformed p h =
      let whole : lines text ≡ r.read ++ (line ∷ lines after) = r.split ∙ ap (λ ls. r.read ++ ls) first in
      let here : get_or (lines text) number [] ≡ line = ap (λ ls. get_or ls number []) whole ∙ get_or_at r.read line (lines after) [] number r.counted in
      record {
        before = rs;
        index = number;
        counted = refl;
        within = omega (arith, ap length whole ∙ length-append r.read (line ∷ lines after), r.counted);
        says = subst (λ ls. Says ls rs) (sym (ap (take number) whole ∙ take_at r.read (line ∷ lines after) number r.counted)) r.says;
        kept = ap passed here ∙ p;
        wrong = subst (λ l. ReadsRecord l None) (sym here) h;
      }
