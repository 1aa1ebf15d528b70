-- Who is on whose list at a moment.
use Rattle.std.proofs.Common.{◌≡◌, ℕ, suc, ◌<◌, ◌≤◌, Bool, true, false, cond, not, ◌&&◌, ◌||◌, eqb, List, [], ◌∷◌, map, length, set, is_some, Some, None, Option, sym, refl, ap, ◌∙◌, subst, ⊎_elim, arith}
use Rattle.std.specs.Option.{option_map}
use Rattle.std.proofs.lemmas.List.{get_or_past, get_or-set_same, get_or-set_other, set_past, length-set, length-map, get_or-map}
use Rattle.std.proofs.lemmas.Bool.{true≢false, eq-eqb, ne_eqb, cond-true, cond-false, cases_eq, cases_lt, cases_Bool, and_parts, not-true}
use Rattle.std.proofs.lemmas.Bool.Decides.{nat_tests}
use Rattle.lists.specs.Edits.{removed, promoted, withdrawn, headed, cleared}
use Rattle.level.specs.Meant.{in_order}
use Rattle.matching.specs.Linkings.{listed}
use Rattle.matching.specs.Lists.{row, place, without}
use Rattle.replay.specs.History.{History, claimed, released, struck, wasted, freed, forbade, favoured, door, gone, lists, forbade_ever}

-- y is on a list
abbrev on : List ℕ → ℕ → Bool
on l y = is_some (place l y)

some_mapped : (o : Option ℕ) → is_some (option_map suc o) ≡ is_some o
some_mapped None = refl
some_mapped (Some p) = refl

on_cons : (x y : ℕ) (xs : List ℕ) → on (x ∷ xs) y ≡ (eqb x y || on xs y)
unfolding place
on_cons x y xs = go (eqb x y)
  where
    go : (b : Bool) → is_some (cond b (Some 0) (option_map suc (place xs y))) ≡ (b || on xs y)
    go true = refl
    go false = some_mapped (place xs y)

on_none : (y : ℕ) → on [] y ≡ false
unfolding place
on_none y = refl

without_cons : (v x y : ℕ) (xs : List ℕ) (b : Bool) → eqb x v ≡ b → on (without v xs) y ≡ (not (eqb y v) && on xs y)
    → on (cond (not b) (x ∷ without v xs) (without v xs)) y ≡ (not (eqb y v) && on (x ∷ xs) y)
without_cons v x y xs true e rest = rw (on_cons x y xs) (grind (arith, nat_tests))
without_cons v x y xs false e rest = rw (on_cons x y xs, on_cons x y (without v xs)) (grind (arith, nat_tests))

without_on : (v y : ℕ) (l : List ℕ) → on (without v l) y ≡ (not (eqb y v) && on l y)
without_on v y [] = rw (on_none y) (grind (arith, nat_tests))
without_on v y (x ∷ xs) = without_cons v x y xs (eqb x v) refl (without_on v y xs)

-- moving a listed door to the head changes nothing about who is listed
headed_on : (v y : ℕ) (l : List ℕ) → on (headed v l) y ≡ on l y
headed_on v y l = go (on l v) refl
  where
    go : (b : Bool) → on l v ≡ b → on (cond b (v ∷ without v l) l) y ≡ on l y
    go true e = on_cons v y (without v l) ∙ ap (λ t. eqb v y || t) (without_on v y l)
        ∙ ⊎_elim (λ (q : v ≡ y). grind (arith, nat_tests, sym (ap (on l) q) ∙ e)) (λ (q : v ≡ y → ⊥). grind (arith, nat_tests, q)) (cases_eq v y)
    go false e = refl

row_past : (ls : List (List ℕ)) (x y : ℕ) → length ls ≤ x → listed ls x y ≡ false
unfolding listed
row_past ls x y i = ap (λ l. on l y) (get_or_past ls x [] i) ∙ on_none y

-- the list of door x is replaced
set_listed : (ls : List (List ℕ)) (x a b : ℕ) (l : List ℕ) → (length ls ≤ x → on l b ≡ false) → listed (set ls x l) a b ≡ cond (eqb x a) (on l b) (listed ls a b)
unfolding listed
set_listed ls x a b l past =
    ⊎_elim
    (λ (q : x ≡ a). subst (λ z. on (row (set ls x l) z) b ≡ on l b) q
    (⊎_elim
    (λ (i : x < length ls). ap (λ r. on r b) (get_or-set_same ls x l [] i))
    (λ (i : length ls ≤ x). ap (λ r. on (row r x) b) (set_past ls x l i) ∙ row_past ls x b i ∙ sym (past i))
    (cases_lt x (length ls)))
    ∙ sym (cond-true (eqb x a) (on l b) (on (row ls a) b) (eq-eqb x a q)))
    (λ (q : x ≡ a → ⊥). ap (λ r. on r b) (get_or-set_other ls x a l [] (λ z. q (sym z))) ∙ sym (cond-false (eqb x a) (on l b) (on (row ls a) b) (ne_eqb x a q)))
    (cases_eq x a)

pub removed_listed : (x y : ℕ) (ls : List (List ℕ)) (a b : ℕ) → listed (removed x y ls) a b ≡ (not (in_order x y a b) && listed ls a b)
unfolding listed
removed_listed x y ls a b =
    set_listed ls x a b (without y (row ls x)) (λ i. without_on y b (row ls x) ∙ grind (arith, nat_tests, row_past ls x b i))
    ∙ ⊎_elim
    (λ (q : x ≡ a). cond-true (eqb x a) (on (without y (row ls x)) b) (on (row ls a) b) (eq-eqb x a q) ∙ without_on y b (row ls x)
    ∙ ap (λ z. not (eqb b y) && on (row ls z) b) q ∙ ap (λ t. not (t && eqb b y) && on (row ls a) b) (sym (eq-eqb a x (sym q))))
    (λ (q : x ≡ a → ⊥). cond-false (eqb x a) (on (without y (row ls x)) b) (on (row ls a) b) (ne_eqb x a q)
    ∙ ap (λ t. not (t && eqb b y) && on (row ls a) b) (sym (ne_eqb a x (λ z. q (sym z)))))
    (cases_eq x a)

pub promoted_listed : (x y : ℕ) (ls : List (List ℕ)) (a b : ℕ) → listed (promoted x y ls) a b ≡ listed ls a b
unfolding listed
promoted_listed x y ls a b =
    set_listed ls x a b (headed y (row ls x)) (λ i. headed_on y b (row ls x) ∙ row_past ls x b i)
    ∙ ⊎_elim
    (λ (q : x ≡ a). cond-true (eqb x a) (on (headed y (row ls x)) b) (on (row ls a) b) (eq-eqb x a q) ∙ headed_on y b (row ls x) ∙ ap (λ z. on (row ls z) b) q)
    (λ (q : x ≡ a → ⊥). cond-false (eqb x a) (on (headed y (row ls x)) b) (on (row ls a) b) (ne_eqb x a q))
    (cases_eq x a)

map_listed : (d : ℕ) (ls : List (List ℕ)) (a b : ℕ) → listed (map (without d) ls) a b ≡ (not (eqb b d) && listed ls a b)
unfolding listed
map_listed d ls a b =
    ⊎_elim
    (λ (i : a < length ls). ap (λ r. on r b) (get_or-map (without d) ls a [] [] i) ∙ without_on d b (row ls a))
    (λ (i : length ls ≤ a). row_past (map (without d) ls) a b (omega (arith, length-map ls (without d))) ∙ grind (arith, nat_tests, row_past ls a b i))
    (cases_lt a (length ls))

pub withdrawn_listed : (d : ℕ) (ls : List (List ℕ)) (a b : ℕ) → listed (withdrawn d ls) a b ≡ (not (eqb d a) && not (eqb d b) && listed ls a b)
withdrawn_listed d ls a b =
    map_listed d (cleared d ls) a b ∙ ap (λ t. not (eqb b d) && t) (set_listed ls d a b [] (λ i. on_none b)) ∙ rw (on_none b) (grind (arith, nat_tests))

-- a struck door ends what was
pub gone_both : (x y w f g h : Bool) → (not x && not y && (w && not g && not h && not f)) ≡ (w && not (x || g) && not (y || h) && not f)
gone_both true y true f g h = refl
gone_both true y false f g h = refl
gone_both false true w f g h = grind (arith, cases_Bool w, cases_Bool f, cases_Bool g, cases_Bool h)
gone_both false false w f g h = refl

apart_too : (x y w f g h : Bool) → (not y && (not x && (w && not g && not h && not f))) ≡ (w && not g && not h && not (x || y || f))
apart_too true y w f g h = grind (arith, cases_Bool y, cases_Bool w, cases_Bool f, cases_Bool g, cases_Bool h)
apart_too false true w f g h = grind (arith, cases_Bool w, cases_Bool f, cases_Bool g, cases_Bool h)
apart_too false false w f g h = refl

-- a door is on a list exactly where the source lists it, neither door was struck, and the pair was never forbidden
pub wanted : (ls : List (List ℕ)) (h : History) (a b : ℕ) → listed (lists ls h) a b ≡ (listed ls a b && not (gone h a) && not (gone h b) && not (forbade_ever h a b))
unfolding lists gone forbade_ever
wanted ls [] a b = grind (arith, cases_Bool (listed ls a b))
wanted ls (claimed d ∷ h) a b = wanted ls h a b
wanted ls (released k ∷ h) a b = wanted ls h a b
wanted ls (struck k ∷ h) a b =
    withdrawn_listed (door h k) (lists ls h) a b ∙ ap (λ t. not (eqb (door h k) a) && not (eqb (door h k) b) && t) (wanted ls h a b)
    ∙ gone_both (eqb (door h k) a) (eqb (door h k) b) (listed ls a b) (forbade_ever h a b) (gone h a) (gone h b)
wanted ls (wasted k ∷ h) a b = wanted ls h a b
wanted ls (freed d ∷ h) a b = wanted ls h a b
wanted ls (forbade c d ∷ h) a b =
    removed_listed d c (removed c d (lists ls h)) a b ∙ ap (λ t. not (in_order d c a b) && t) (removed_listed c d (lists ls h) a b ∙ ap (λ t. not (in_order c d a b) && t) (wanted ls h a b))
    ∙ apart_too (in_order c d a b) (in_order d c a b) (listed ls a b) (forbade_ever h a b) (gone h a) (gone h b)
wanted ls (favoured c d ∷ h) a b = promoted_listed c d (lists ls h) a b ∙ wanted ls h a b

-- the number of doors stays
pub count_kept : (ls : List (List ℕ)) (h : History) → length (lists ls h) ≡ length ls
unfolding lists
count_kept ls [] = refl
count_kept ls (claimed d ∷ h) = count_kept ls h
count_kept ls (released k ∷ h) = count_kept ls h
count_kept ls (struck k ∷ h) = length-map (cleared (door h k) (lists ls h)) (without (door h k)) ∙ length-set (lists ls h) (door h k) [] ∙ count_kept ls h
count_kept ls (wasted k ∷ h) = count_kept ls h
count_kept ls (freed d ∷ h) = count_kept ls h
count_kept ls (forbade c d ∷ h) = length-set (removed c d (lists ls h)) d (without c (row (removed c d (lists ls h)) d)) ∙ length-set (lists ls h) c (without d (row (lists ls h) c)) ∙ count_kept ls h
count_kept ls (favoured c d ∷ h) = length-set (lists ls h) c (headed d (row (lists ls h) c)) ∙ count_kept ls h

none_on : (l : List ℕ) → ((y : ℕ) → on l y ≡ false) → l ≡ []
none_on [] n = refl
none_on (x ∷ xs) n = absurd (true≢false (sym (grind (arith, nat_tests, on_cons x x xs)) ∙ n x))

-- a struck door listed nobody and nobody listed it
pub gone_listed : (ls : List (List ℕ)) (h : History) (d : ℕ) → gone h d ≡ true → ((y : ℕ) → listed (lists ls h) d y ≡ false) × ((x : ℕ) → listed (lists ls h) x d ≡ false)
gone_listed ls h d g = (λ y. wanted ls h d y ∙ grind (arith, cases_Bool (listed ls d y), cases_Bool (gone h y), cases_Bool (forbade_ever h d y)), λ x. wanted ls h x d ∙ grind (arith, cases_Bool (listed ls x d), cases_Bool (gone h x), cases_Bool (forbade_ever h x d)))

pub gone_row : (ls : List (List ℕ)) (h : History) (d : ℕ) → gone h d ≡ true → row (lists ls h) d ≡ []
unfolding listed
gone_row ls h d g = none_on (row (lists ls h) d) (gone_listed ls h d g).0

-- so a listed door was never forbidden
pub never_forbidden : (ls : List (List ℕ)) (h : History) (a b : ℕ) → listed (lists ls h) a b ≡ true → forbade_ever h a b ≡ false
never_forbidden ls h a b e = not-true (forbade_ever h a b) (and_parts (listed ls a b && not (gone h a) && not (gone h b)) (not (forbade_ever h a b)) (sym (wanted ls h a b) ∙ e)).1
