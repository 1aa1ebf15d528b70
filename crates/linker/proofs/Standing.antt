-- Ranks as the tables tell them, and which doors are still on a list.
use Rattle.std.proofs.Common.{◌≡◌, ℕ, ◌+◌, ◌*◌, ◌<◌, ◌≤◌, true, false, List, length, get_or, sym, ap, ◌∙◌, ⊎_elim, arith}
use Rattle.std.proofs.lemmas.List.{get_or_past}
use Rattle.std.proofs.lemmas.Bool.{and_from, cases_lt, cases_Bool, cond-true, cond-false}
use Rattle.matching.specs.Lists.{row, place, Lawful, rank}
use Rattle.matching.specs.Linkings.{listed, accept}
use Rattle.matching.specs.Ranks.{Ranks}
use Rattle.matching.specs.Holders.{row_rank}
use Rattle.matching.proofs.Positions.{rank_cases, rank_here, rank_place, rank_most}
use Rattle.matching.proofs.Bridge.{Ranking, row_ranking, accept_pairing, near_pair, pair_listed, pair_self, pair_door, ranking_ranks, rank_listed}
use Rattle.linker.specs.Tables.{mark}
use Rattle.linker.specs.Meanings.{lists_in}
use Rattle.linker.specs.declared.tables.Tables.{Tables}
use Rattle.linker.specs.declared.marks.Marks.{Marks}
use Rattle.linker.specs.Holders.{ranks, lasts, Remains, Still, Marked}
use Rattle.linker.proofs.Written.{row_short}
use Rattle.linker.proofs.Asked.{tabled_length, told_place, row_listed}

module _ (ls : List (List ℕ)) (f : Lawful ls) where
  pub orders : Ranking ls (accept ls) (ranks ls)
  orders = row_ranking ls (accept ls) f (accept_pairing ls)

  pub lawful_ranks : Ranks (ranks ls)
  lawful_ranks = ranking_ranks ls (accept ls) f (accept_pairing ls) (ranks ls) orders

  pub ranked_pair : (x y : ℕ) → ranks ls x y < ranks ls x x → accept ls x y ≡ true
  ranked_pair = near_pair ls (accept ls) f (accept_pairing ls) (ranks ls) orders

  pub rank_near : (x y : ℕ) → accept ls x y ≡ true → ranks ls x y ≡ rank (row ls x) y
  unfolding row_rank
  rank_near x y h = cond-true (accept ls x y) (rank (row ls x) y) (length (row ls x)) h

  rank_far : (x y : ℕ) → accept ls x y ≡ false → ranks ls x y ≡ length (row ls x)
  unfolding row_rank
  rank_far x y h = cond-false (accept ls x y) (rank (row ls x) y) (length (row ls x)) h

  pub rank_own : (x : ℕ) → ranks ls x x ≡ length (row ls x)
  rank_own x = rank_far x x (pair_self ls (accept ls) f (accept_pairing ls) x)

  pub rank_long : (x y : ℕ) → ranks ls x y ≤ length (row ls x)
  rank_long x y =
      ⊎_elim (λ h. omega (arith, rank_near x y h, rank_most (row ls x) y)) (λ h. omega (arith, rank_far x y h)) (cases_Bool (accept ls x y))

  -- the place of a door that is accepted is its rank
  pub rank_mark : (x y : ℕ) → accept ls x y ≡ true → mark (place (row ls x) y) ≡ ranks ls x y
  rank_mark x y h = ap mark (rank_place (row ls x) y (pair_listed ls (accept ls) f (accept_pairing ls) x y h)) ∙ sym (rank_near x y h)

  -- the door at a rank
  pub ranked_door : (x y : ℕ) → accept ls x y ≡ true → get_or (row ls x) (ranks ls x y) 0 ≡ y
  ranked_door x y h =
      ap (λ k. get_or (row ls x) k 0) (rank_near x y h) ∙ (rank_here (row ls x) y (pair_listed ls (accept ls) f (accept_pairing ls) x y h)).0

  -- the rank of the door at a place
  pub door_rank : (x k : ℕ) → k < length (row ls x) → accept ls x (get_or (row ls x) k 0) ≡ true → ranks ls x (get_or (row ls x) k 0) ≡ k
  door_rank x k b h =
      let y : ℕ = get_or (row ls x) k 0 in
      (f.each x).apart (ranks ls x y) k (omega (arith, orders.near x y h, rank_own x)) b (ranked_door x y h)

  -- both doors of a pair are doors of the level
  pub ranked_doors : (x y : ℕ) → ranks ls x y < ranks ls x x → (x < length ls) × (y < length ls)
  ranked_doors x y h =
      let a = ranked_pair x y h in (
        pair_door ls (accept ls) f (accept_pairing ls) y x ((accept_pairing ls).both x y a),
        pair_door ls (accept ls) f (accept_pairing ls) x y a,
      )

  -- a door that marks x at one of its places accepts it
  marks_back : (x k : ℕ) → k < length (row ls x) → mark (place (row ls (get_or (row ls x) k 0)) x) < 65535 → accept ls x (get_or (row ls x) k 0) ≡ true
  unfolding accept
  marks_back x k b h =
      let y : ℕ = get_or (row ls x) k 0 in
      and_from (listed ls x y) (listed ls y x) (row_listed ls x k b)
      (⊎_elim
      (λ c. rank_listed ls y x c.0)
      (λ c. absurd (omega (arith, h, ap mark c.1)))
      (rank_cases (row ls y) x))

-- the places of the last doors are on the lists, or just past them
pub marked_short : (ls : List (List ℕ)) → Lawful ls → (holder keep first : List ℕ) → Marked ls holder keep first → (y : ℕ) → get_or keep y 0 ≤ length (row ls y)
marked_short ls f holder keep first m y =
    ⊎_elim
    (λ b. omega (arith, m.placed y b, rank_long ls f y (lasts holder y)))
    (λ b. omega (arith, get_or_past keep y 0 (omega (arith, b, m.marks))))
    (cases_lt y (length ls))

-- what is still on a list by the places of the last doors is so by the doors
pub still_remains : (ls : List (List ℕ)) → Lawful ls → (holder keep first : List ℕ) → Marked ls holder keep first → (x y : ℕ) → Still ls keep x y → Remains ls holder x y
still_remains ls f holder keep first m x y s =
    let d = ranked_doors ls f x y s.0 in
    (s.0, omega (arith, s.1, m.placed x d.0), omega (arith, s.2, m.placed y d.1))

pub remains_still : (ls : List (List ℕ)) → Lawful ls → (holder keep first : List ℕ) → Marked ls holder keep first → (x y : ℕ) → Remains ls holder x y → Still ls keep x y
remains_still ls f holder keep first m x y s =
    let d = ranked_doors ls f x y s.0 in
    (s.0, omega (arith, s.1, m.placed x d.0), omega (arith, s.2, m.placed y d.1))

-- tables of n doors hold n lists
pub tables_count : (t : Tables) → length (lists_in t) ≡ t.count
tables_count t = tabled_length t.count t.lists.now t.sizes.now

-- the tables tell it
module _ (t : Tables) (keep : List ℕ) (short : (y : ℕ) → get_or keep y 0 ≤ length (row (lists_in t) y)) (x : ℕ) (door : x < t.count) where
  pub told_still : (k : ℕ) → k < length (row (lists_in t) x) → k ≤ get_or keep x 0
      → get_or t.places.now (get_or (row (lists_in t) x) k 0 * t.count + x) 0 ≤ get_or keep (get_or (row (lists_in t) x) k 0) 0
      → Still (lists_in t) keep x (get_or (row (lists_in t) x) k 0) × (ranks (lists_in t) x (get_or (row (lists_in t) x) k 0) ≡ k)
  told_still k b c e =
      let ls = lists_in t in
      let y : ℕ = get_or (row ls x) k 0 in
      let small : y < t.count = omega (arith, (t.sound.legal.each x).known k b, tables_count t) in
      let told = told_place t y x small door in
      let a : accept ls x y ≡ true =
      marks_back ls t.sound.legal x k b (omega (arith, e, told, short y, row_short ls y t.sound.legal, t.sound.legal.few)) in
      let at = door_rank ls t.sound.legal x k b a in
      let back = rank_mark ls t.sound.legal y x ((accept_pairing ls).both x y a) in
      (((orders ls t.sound.legal).near x y a, omega (arith, at, c), omega (arith, e, told, back)), at)

  pub still_told : (y : ℕ) → Still (lists_in t) keep x y → (get_or (row (lists_in t) x) (ranks (lists_in t) x y) 0 ≡ y) × (get_or t.places.now (y * t.count + x) 0 ≤ get_or keep y 0)
  still_told y q =
      let ls = lists_in t in
      let a = ranked_pair ls t.sound.legal x y q.0 in
      let small : y < t.count = omega (arith, (ranked_doors ls t.sound.legal x y q.0).1, tables_count t) in
      (ranked_door ls t.sound.legal x y a, omega (arith, q.2, told_place t y x small door, rank_mark ls t.sound.legal y x ((accept_pairing ls).both x y a)))

-- the place of x on the list of a door that accepts it
pub told_rank : (t : Tables) → (x y : ℕ) → ranks (lists_in t) x y < ranks (lists_in t) x x → get_or t.places.now (y * t.count + x) 0 ≡ ranks (lists_in t) y x
told_rank t x y h =
    let ls = lists_in t in
    let d = ranked_doors ls t.sound.legal x y h in
    told_place t y x (omega (arith, d.1, tables_count t)) (omega (arith, d.0, tables_count t))
    ∙ rank_mark ls t.sound.legal y x ((accept_pairing ls).both x y (ranked_pair ls t.sound.legal x y h))

-- the marks of a type lie on the lists
pub marks_short : (m : Marks) (y : ℕ) → get_or m.keep.now y 0 ≤ length (row (lists_in m.tables) y)
marks_short m = marked_short (lists_in m.tables) m.tables.sound.legal m.holder.now m.keep.now m.first.now m.marked
