-- What the tables answer about the lists that they hold.
use Rattle.std.proofs.Common.{◌≡◌, ℕ, ◌+◌, ◌*◌, ◌<◌, ◌≤◌, true, not, ◌&&◌, eqb, List, [], length, get_or, drop, is_some, Some, None, Option, sym, refl, ap, ◌∙◌, subst, ⊎_elim, arith}
use Rattle.std.proofs.lemmas.List.FromFn.{length-map-range_with_len, get_or-map-range_with_len}
use Rattle.std.proofs.lemmas.List.{ext_get_or, get_or_past, get_or-take, get_or-drop, length-take-le, length-drop}
use Rattle.std.proofs.lemmas.Bool.{eqb-true, ne_eqb, cases_lt}
use Rattle.std.proofs.lemmas.Bool.Decides.{nat_tests}
use Rattle.matching.specs.Lists.{row, place, Lawful, PlaceOf}
use Rattle.matching.specs.Linkings.{listed, accept, exit, entrance, counts_one_way}
use Rattle.matching.proofs.Rows.{place_view}
use Rattle.sources.proofs.Asked.{some_view}
use Rattle.linker.specs.Tables.{mark, Holds, table_row, tabled, Sound}
use Rattle.linker.specs.Meanings.{lists_in}
use Rattle.linker.specs.declared.tables.Tables.{Tables}
use Rattle.linker.proofs.Written.{row_short, row_room}

-- a door is on a list where its mark is not that of absence
marked : (l : List ℕ) (y : ℕ) → length l ≤ 96 → is_some (place l y) ≡ not (eqb (mark (place l y)) 65535)
marked l y b = go (place l y) (place_view l y)
  where
    go : (o : Option ℕ) → PlaceOf l y o → is_some o ≡ not (eqb (mark o) 65535)
    go None v = refl
    go (Some p) v = sym (ap not (ne_eqb p 65535 (λ e. omega (arith, v.0))))

-- for an exit and a door on its list, only the other's side and list count
pub counts_where : (ls : List (List ℕ)) (sides : List ℕ) (x y : ℕ) → exit sides x ≡ true → listed ls x y ≡ true → counts_one_way ls sides x y ≡ (entrance sides y && listed ls y x)
unfolding counts_one_way accept exit entrance
counts_where ls sides x y a b = grind (arith, nat_tests, a, b, eqb-true (get_or sides x 2) 0 a)

-- doors of which one is on the other's list are doors of the level
pub listed_doors : (ls : List (List ℕ)) (x y : ℕ) → Lawful ls → listed ls x y ≡ true → (x < length ls) × (y < length ls)
unfolding listed
listed_doors ls x y f h = go (place (row ls x) y) refl h
  where
    go : (o : Option ℕ) → place (row ls x) y ≡ o → is_some o ≡ true → (x < length ls) × (y < length ls)
    go None e i = absurd (grind arith)
    go (Some p) e i =
        let v = some_view (row ls x) y p e in
        let at : y < length ls = subst (λ z. z < length ls) v.1 ((f.each x).known p v.0) in
        (⊎_elim (λ b. b) (λ b. absurd (omega (arith, v.0, ap length (get_or_past ls x [] b)))) (cases_lt x (length ls)), at)

-- tables of n doors hold n lists
pub tabled_length : (n : ℕ) (lists sizes : List ℕ) → length (tabled n lists sizes) ≡ n
unfolding tabled
tabled_length n lists sizes = length-map-range_with_len (table_row n lists sizes) 0 n

-- what sound tables tell
module _ (t : Tables) where
  count : length (lists_in t) ≡ t.count
  count = tabled_length t.count t.lists.now t.sizes.now

  pub told_place : (x y : ℕ) → x < t.count → y < t.count → get_or t.places.now (x * t.count + y) 0 ≡ mark (place (row (lists_in t) x) y)
  told_place x y a b =
      subst (λ m. get_or t.places.now (x * m + y) 0 ≡ mark (place (row (lists_in t) x) y)) count (t.sound.holds.placed x y (omega (arith, count)) (omega (arith, count)))

  pub told_door : (x k : ℕ) → k < length (row (lists_in t) x) → get_or t.lists.now (x * t.count + k) 0 ≡ get_or (row (lists_in t) x) k 0
  told_door x k a =
      subst (λ m. get_or t.lists.now (x * m + k) 0 ≡ get_or (row (lists_in t) x) k 0) count
      (t.sound.holds.listed x k (⊎_elim (λ b. b) (λ b. absurd (omega (arith, a, ap length (get_or_past (lists_in t) x [] b)))) (cases_lt x (length (lists_in t)))) a)

  pub told_size : (x : ℕ) → x < t.count → get_or t.sizes.now x 0 ≡ length (row (lists_in t) x)
  told_size x b = t.sound.holds.sized x (omega (arith, count))

  -- a door on an exit's list takes it where it is an entrance that marks it
  pub told_takes : (sides : List ℕ) (x y : ℕ) → exit sides x ≡ true → listed (lists_in t) x y ≡ true
      → counts_one_way (lists_in t) sides x y ≡ (entrance sides y && not (eqb (get_or t.places.now (y * t.count + x) 0) 65535))
  unfolding listed
  told_takes sides x y a b =
      let d = listed_doors (lists_in t) x y t.sound.legal b in
      counts_where (lists_in t) sides x y a b
      ∙ ap (λ v. entrance sides y && v)
      (marked (row (lists_in t) y) x (omega (arith, t.sound.legal.few, row_short (lists_in t) y t.sound.legal)) ∙ ap (λ v. not (eqb v 65535)) (sym (told_place y x (omega (arith, count)) (omega (arith, count)))))

-- the door at a place of a list is on the list
pub row_listed : (ls : List (List ℕ)) (x k : ℕ) → k < length (row ls x) → listed ls x (get_or (row ls x) k 0) ≡ true
unfolding listed
row_listed ls x k h = go (place (row ls x) (get_or (row ls x) k 0)) (place_view (row ls x) (get_or (row ls x) k 0))
  where
    go : (o : Option ℕ) → PlaceOf (row ls x) (get_or (row ls x) k 0) o → is_some o ≡ true
    go (Some p) v = refl
    go None v = absurd (v k h refl)

-- tables that were read hold the lists that they were read from
read_row : (ls : List (List ℕ)) (lists places sizes : List ℕ) (x : ℕ) → Lawful ls → length lists ≡ length ls * length ls → Holds ls lists places sizes → x < length ls → table_row (length ls) lists sizes x ≡ row ls x
read_row ls lists places sizes x f w h b =
    let n = length ls in
    let short = row_short ls x f in
    let size = h.sized x b in
    let long : length (table_row n lists sizes x) ≡ length (row ls x) =
    length-take-le (get_or sizes x 0) (drop (x * n) lists) (omega (arith, length-drop (x * n) lists, row_room n x b, size)) ∙ size in
    ext_get_or 0 (table_row n lists sizes x) (row ls x) long
    (λ k i. get_or-take (get_or sizes x 0) (drop (x * n) lists) k 0 (omega (arith, long)) ∙ get_or-drop (x * n) lists k 0 ∙ h.listed x k b (omega (arith, long)))

pub read_tables : (n : ℕ) (ls : List (List ℕ)) (lists places sizes : List ℕ) → Lawful ls → n ≡ length ls → length lists ≡ n * n → Holds ls lists places sizes → tabled n lists sizes ≡ ls
unfolding tabled
read_tables n ls lists places sizes f e w h =
    ext_get_or [] (tabled n lists sizes) ls (tabled_length n lists sizes ∙ e)
    (λ x b.
    get_or-map-range_with_len (table_row n lists sizes) 0 n x x [] (omega (arith, tabled_length n lists sizes)) (omega arith)
    ∙ ap (λ m. table_row m lists sizes x) e ∙ read_row ls lists places sizes x f (w ∙ ap (λ m. m * m) e) h (omega (arith, tabled_length n lists sizes)))

-- and they are sound
pub read_sound : (n : ℕ) (ls : List (List ℕ)) (lists places sizes : List ℕ) → Lawful ls → n ≡ length ls → length lists ≡ n * n → Holds ls lists places sizes → Sound n lists places sizes
read_sound n ls lists places sizes f e w h =
    let same = read_tables n ls lists places sizes f e w h in
    record { legal = subst Lawful (sym same) f; holds = subst (λ l. Holds l lists places sizes) (sym same) h }
