-- A linking as it is written, entry by entry.
use Rattle.std.proofs.Common.{◌≡◌, ℕ, ◌+◌, ◌<◌, ◌≤◌, ◌⊎◌, ◌||◌, min, Bool, true, false, not, eqb, ltb, List, [], ◌∷◌, ◌++◌, length, get_or, drop, decimal, Option, Some, None, refl, sym, ap, ◌∙◌, inl, inr, ⊎_elim, subst, add-one, arith}
use Rattle.std.specs.Fmt.{HasWritten}
use Rattle.std.specs.List.{flat_map}
use Rattle.std.specs.declared.fmt.Formatter.{Formatter}
use Rattle.std.proofs.Output.{has_written_append}
use Rattle.std.proofs.lemmas.Bool.{cases_lt, cond_both, ne_eqb}
use Rattle.std.proofs.lemmas.List.{append_assoc, append-nil, drop_more, drop_all}
use Rattle.text.specs.Lines.{added, all_added, entries, entry_at, is_said, joined, linking_line, partner}

-- what was written, and what the doors from `door` on add, is what all doors add
pub record WrittenTo {W : Type 0} (took : W → List ℕ → W → Type 0) (f : Formatter W) (first : Bool) (ss : List Bool) (ps : List ℕ) (door : ℕ) (begun : Bool) (g : Formatter W) : Type 0 where
  pub line : List ℕ
  pub wrote : HasWritten took f line g
  pub whole : line ++ all_added begun (entries door (drop door ss) (drop door ps)) ≡ all_added first (entries 0 ss ps)

at_most_one : (stands : Bool) (door : ℕ) (other : Option ℕ) → length (entry_at stands door other) ≤ 1
at_most_one false door other = omega arith
at_most_one true door None = omega arith
at_most_one true door (Some p) = cond_both (ltb door p) ((decimal door ++ (45 ∷ decimal p)) ∷ []) [] (λ ws. length ws ≤ 1) (λ e. omega arith) (λ e. omega arith)

one_more : (begun : Bool) (here rest : List (List ℕ)) → length here ≤ 1 → added begun here ++ all_added (begun || is_said here) rest ≡ all_added begun (here ++ rest)
one_more true [] rest h = refl
one_more false [] rest h = refl
one_more true (w ∷ []) rest h = refl
one_more false (w ∷ []) rest h = refl
one_more begun (v ∷ w ∷ ws) rest h = absurd (omega arith)

later_words : (ws : List (List ℕ)) → all_added true ws ≡ flat_map (λ v. 32 ∷ v) ws
later_words [] = refl
later_words (w ∷ ws) = ap (λ l. (32 ∷ w) ++ l) (later_words ws)

all_joined : (begun : Bool) (ws : List (List ℕ)) → all_added begun ws ≡ joined begun ws
all_joined true ws = later_words ws
all_joined false [] = refl
all_joined false (w ∷ ws) = ap (λ l. w ++ l) (later_words ws)

module _ {W : Type 0} {took : W → List ℕ → W → Type 0} {f : Formatter W} {first : Bool} {ss : List Bool} {ps : List ℕ} {door : ℕ} {begun : Bool} {g : Formatter W} (i : WrittenTo took f first ss ps door begun g) where
  pub written_more : (h : Formatter W) (stands : Bool) (n : ℕ) (other : Option ℕ) (said : Bool) → door < length ss → door < length ps
      → stands ≡ get_or ss door false → n ≡ door → other ≡ partner (get_or ps door 0) → said ≡ is_said (entry_at stands n other)
      → HasWritten took g (added begun (entry_at stands n other)) h → WrittenTo took f first ss ps (door + 1) (begun || said) h
  written_more h stands n other said l m c d o e w =
      let here = entry_at stands n other in
      let rest = entries (door + 1) (drop (door + 1) ss) (drop (door + 1) ps) in
      let split : entries door (drop door ss) (drop door ps) ≡ here ++ rest = rw (drop_more ss door false l, drop_more ps door 0 m, add-one, c, d, o) refl in
      record {
        line = i.line ++ added begun here;
        wrote = has_written_append took f i.line g (added begun here) h i.wrote w;
        whole = rw e (append_assoc i.line (added begun here) (all_added (begun || is_said here) rest) ∙ ap (λ l. i.line ++ l) (one_more begun here rest (at_most_one stands n other) ∙ ap (all_added begun) (sym split)) ∙ i.whole);
      }

  pub written_all : door ≡ min (length ss) (length ps) → HasWritten took f (joined first (entries 0 ss ps)) g
  written_all end = subst (λ l. HasWritten took f l g) (sym (append-nil i.line) ∙ ap (λ ws. i.line ++ all_added begun ws) (sym (none_left (⊎_elim (λ h. inr (omega arith)) (λ h. inl h) (cases_lt door (length ss))))) ∙ i.whole ∙ all_joined first (entries 0 ss ps)) i.wrote where
    no_partners : (n : ℕ) (ts : List Bool) → entries n ts [] ≡ []
    no_partners n [] = refl
    no_partners n (t ∷ ts) = refl

    none_left : (length ss ≤ door) ⊎ (length ps ≤ door) → entries door (drop door ss) (drop door ps) ≡ []
    none_left (inl h) = rw (drop_all door ss h) refl
    none_left (inr h) = rw (drop_all door ps h) (no_partners door (drop door ss))

-- a head and the entries after it are the linking's line
pub line_after : (head : List ℕ) (ss : List Bool) (ps : List ℕ) (empty : Bool) → empty ≡ eqb (length head) 0 → head ++ joined (not empty) (entries 0 ss ps) ≡ linking_line head ss ps
line_after [] ss ps empty e = rw e refl
line_after (c ∷ cs) ss ps empty e = rw (e, ne_eqb (length (c ∷ cs)) 0 (λ e. omega arith)) refl

pub linking_line-some : (head : List ℕ) (ss : List Bool) (ps : List ℕ) → 0 < length head → linking_line head ss ps ≡ head ++ joined true (entries 0 ss ps)
linking_line-some [] ss ps h = absurd (omega arith)
linking_line-some (c ∷ cs) ss ps h = refl
