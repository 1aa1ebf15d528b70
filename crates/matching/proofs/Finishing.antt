-- Proposals on tables, in the theory's form: they finish, always in the same table, which is settled and has room for every stable linking.
use Rattle.std.proofs.Common.{◌≡◌, ℕ, zero, suc, ◌<◌, ◌≤◌, true, eqb, ◌⊎◌, List, [], ◌∷◌, map, length, get_or, set, replicate, filter, sym, refl, ap, ◌∙◌, subst, inl, inr, ⊎_elim, arith}
use mathlib.Core.Path.{fun_ext}
use Rattle.std.specs.List.{range_with_len}
use Rattle.std.proofs.lemmas.List.FromFn.{length-map-range_with_len, get_or-map-range_with_len}
use Rattle.std.proofs.lemmas.List.{get_or_past, get_or-set_same, get_or-set_other, length-set, length-replicate, get_or-replicate}
use Rattle.std.proofs.lemmas.Bool.{cases_eq, cases_lt}
use Rattle.matching.specs.Lists.{row, Lawful, is_distinct, rank}
use Rattle.matching.specs.Linkings.{unlinked, accept, partner, Prefers}
use Rattle.matching.specs.Proposals.{trimmed}
use Rattle.matching.specs.Ranks.{Ranks, Links, Unblocked, On, Within}
use Rattle.matching.specs.Settled.{Settled}
use Rattle.matching.specs.TwoWay.{Parted, Trimmed, Proposes, Leads, Finish}
use Rattle.matching.specs.Holders.{Writes, First, Holding, Ended, total, anyone, In, Rises, RowOf, TableOf, first, Stands}
use Rattle.matching.proofs.Rows.{distinct_from}
use Rattle.matching.proofs.Positions.{rank_cases, rank_here, rank_absent, kept_distinct, rank_at}
use Rattle.matching.proofs.Bridge.{Ranking, accept_pairing, trim_rank, trim_end, trim_ranking, ranking_ranks, near_pair, less_prefers, pair_door}
use Rattle.matching.proofs.Proposing.{Asked, at_most, asked_less, asked_within, on_sym, asked_holding, holding_most, ended_within, ended_same}
use Rattle.matching.proofs.Pointers.{Loose}
use Rattle.matching.proofs.Search.{all_or_some, total_falls}
use Rattle.matching.proofs.Settled.{settled_at_end}
use Rattle.matching.proofs.Rotating.{moved}
use Rattle.matching.proofs.Tables.{in_at, at_in, rises_from, row_first, row_head, row_empty, table_one, prefers_less, parted_table, parted_made, rows_firsts}
use Rattle.matching.proofs.Tables

-- a list of no doors
pub nil_from : (l : List ℕ) → length l ≤ 0 → l ≡ []
nil_from [] h = refl
nil_from (y ∷ l) h = absurd (omega arith)

-- z proposes to its first q
pub asked_made : (r : ℕ → ℕ → ℕ) (g : ℕ → ℕ) (z q : ℕ) → First r g z q → (g' : ℕ → ℕ) × Asked r g z q g'
asked_made r g z q f =
    let m = moved g (λ i. q) (λ i. z) 1 (omega arith) (λ i. refl) (λ i j e. refl) in
    (m.0, record { first = f; taken = m.1.moves 0; rest = λ y n. ⊎_elim (λ e. e) (λ k. absurd (n k.1)) (m.1.stays y) })

-- the table at the start
unfoldable pub start : List (List ℕ) → List (List ℕ)
start ls = map (trimmed ls (accept ls)) (range_with_len 0 (length ls))

pub start_trimmed : (ls : List (List ℕ)) → Trimmed ls (start ls)
unfolding start trimmed
start_trimmed ls =
    let rows : ℕ → List ℕ = trimmed ls (accept ls) in
    let n : ℕ = length ls in
    record {
      size = length-map-range_with_len rows 0 n;
      rows = λ x.
          ⊎_elim
          (λ b. get_or-map-range_with_len rows 0 n x x [] b (omega arith))
          (λ b. get_or_past (start ls) x [] (omega (arith, b, length-map-range_with_len rows 0 n)) ∙ sym (ap (filter (accept ls x)) (get_or_past ls x [] b)))
          (cases_lt x n);
    }

module _ (ls : List (List ℕ)) (h : Lawful ls) (r : ℕ → ℕ → ℕ) (o : Ranking ls (accept ls) r) where
  pub two_way_ranks : Ranks r
  two_way_ranks = ranking_ranks ls (accept ls) h (accept_pairing ls) r o

  -- a door with a rank is a door of the level
  pub near_door : (x y : ℕ) → r x y < r x x → x < length ls
  near_door x y n = pair_door ls (accept ls) h (accept_pairing ls) y x ((accept_pairing ls).both x y (near_pair ls (accept ls) h (accept_pairing ls) r o x y n))

  pub near_small : (x y : ℕ) → r x y < r x x → x ≡ unlinked → ⊥
  near_small x y n e = omega (arith, near_door x y n, h.few, e)

  -- the trimmed lists are the table where nobody holds a proposal
  trimmed_in : (x y : ℕ) → In y (trimmed ls (accept ls) x) → accept ls x y ≡ true
  unfolding trim_rank
  trimmed_in x y i =
      let l : List ℕ = trimmed ls (accept ls) x in
      let k = at_in l 0 y i in
      near_pair ls (accept ls) h (accept_pairing ls) (trim_rank ls (accept ls)) (trim_ranking ls (accept ls) h (accept_pairing ls)) x y
      (⊎_elim
      (λ c. omega (arith, c.0, trim_end ls (accept ls) h (accept_pairing ls) x))
      (λ c. absurd (rank_absent l y c.0 k.0 k.1 k.2))
      (rank_cases l y))

  trimmed_all : (x y : ℕ) → accept ls x y ≡ true → In y (trimmed ls (accept ls) x)
  unfolding trim_rank
  trimmed_all x y a =
      let l : List ℕ = trimmed ls (accept ls) x in
      let n : rank l y < length l = omega (arith, (trim_ranking ls (accept ls) h (accept_pairing ls)).near x y a, trim_end ls (accept ls) h (accept_pairing ls) x) in
      subst (λ v. In v l) (rank_here l y n).0 (in_at l (rank l y) 0 n)

  trimmed_distinct : (x : ℕ) → is_distinct eqb (trimmed ls (accept ls) x) ≡ true
  unfolding trimmed
  trimmed_distinct x = kept_distinct (accept ls x) (row ls x) (distinct_from (row ls x) (λ j k i b e. omega (arith, i, (h.each x).apart j k (omega arith) b e)))

  trimmed_rises : (x : ℕ) → Rises (r x) (trimmed ls (accept ls) x)
  unfolding trim_rank
  trimmed_rises x =
      let l : List ℕ = trimmed ls (accept ls) x in
      let pair : (k : ℕ) → k < length l → accept ls x (get_or l k 0) ≡ true = λ k b. trimmed_in x (get_or l k 0) (in_at l k 0 b) in
      rises_from (r x) l
      (λ j k i b.
      let c : j < length l = omega (arith, i, b) in
      o.order x (get_or l j 0) (get_or l k 0) (pair j c) (pair k b)
      (less_prefers ls (accept ls) h (accept_pairing ls) (trim_rank ls (accept ls)) (trim_ranking ls (accept ls) h (accept_pairing ls)) x (get_or l j 0) (get_or l k 0) (pair j c) (pair k b)
      (omega (arith, i, rank_at l j (trimmed_distinct x) c, rank_at l k (trimmed_distinct x) b))))

  trimmed_row : (x : ℕ) → RowOf r (λ y. y) x (trimmed ls (accept ls) x)
  trimmed_row x =
      record {
        on = λ y i. let n = o.near x y (trimmed_in x y i) in (n, omega (arith, n), omega (arith, two_way_ranks.both x y n));
        all = λ y on. trimmed_all x y (near_pair ls (accept ls) h (accept_pairing ls) r o x y on.0);
        rises = trimmed_rises x;
      }

  pub stands_start : (T : List (List ℕ)) (held : List ℕ) → Trimmed ls T → held ≡ replicate (length ls) unlinked → Stands ls r T held (λ x. x)
  stands_start T held t e =
      record {
        rows = λ x. subst (RowOf r (λ y. y) x) (sym (t.rows x)) (trimmed_row x);
        size = t.size;
        writes = λ x. inl (
          refl,
          ap (λ l. get_or l x unlinked) e ∙ ⊎_elim
              (λ b. get_or-replicate (length ls) x unlinked unlinked b)
              (λ b. get_or_past (replicate (length ls) unlinked) x unlinked (omega (arith, length-replicate (length ls) unlinked, b)))
              (cases_lt x (length ls)),
        );
        long = ap length e ∙ length-replicate (length ls) unlinked;
        holding = λ y. inl refl;
        room = λ m l u x. at_most r m l x;
        above = λ e d _ x. holding_most r e two_way_ranks d x;
      }

  -- a proposal, in a table and of its holders
  module _ (T : List (List ℕ)) (held : List ℕ) (g : ℕ → ℕ) (s : Stands ls r T held g) (x y : ℕ) (g' : ℕ → ℕ) (a : Asked r g x y g') where
    far : (u v : ℕ) → (u ≡ y) × Prefers T y x v → r u (g' u) < r u v
    far u v p =
        subst (λ w. r w (g' w) < r w v) (sym p.0) (omega (arith, (prefers_less r g T s.rows y x v p.1).2, ap (r y) a.taken))

    near : (u v : ℕ) → On r g u v → r u (g' u) < r u v → (u ≡ y) × Prefers T y x v
    near u v on b =
        ⊎_elim
        (λ e. (
          e,
          Tables.less_prefers r g T s.rows y x v (on_sym r g x y two_way_ranks a.first.0) (subst (λ w. On r g w v) e on)
              (subst (λ w. r w x < r w v) e (omega (arith, b, ap (r u) (ap g' e ∙ a.taken)))),
        ))
        (λ n. absurd (omega (arith, b, on.1, ap (r u) (a.rest u n))))
        (cases_eq u y)

    writes_next : Writes g' (set held y x)
    writes_next z =
        ⊎_elim
        (λ e. let there : g' z ≡ x = ap g' e ∙ a.taken in
        let entry : partner (set held y x) z ≡ x = ap (partner (set held y x)) e ∙ get_or-set_same held y x unlinked
        (omega (arith, s.long, near_door y x (two_way_ranks.both x y a.first.0.0))) in
        inr (λ d. omega (arith, a.first.0.0, ap (r x) (sym e ∙ (sym d ∙ there))), entry ∙ sym there, λ d. near_small x y a.first.0.0 (sym there ∙ d)))
        (λ n. subst (λ w. ((w ≡ z) × (partner (set held y x) z ≡ unlinked)) ⊎ ((w ≡ z → ⊥) × (partner (set held y x) z ≡ w) × (w ≡ unlinked → ⊥))) (sym (a.rest z n))
        (subst (λ w. ((g z ≡ z) × (w ≡ unlinked)) ⊎ ((g z ≡ z → ⊥) × (w ≡ g z) × (g z ≡ unlinked → ⊥))) (sym (get_or-set_other held y z x unlinked n)) (s.writes z)))
        (cases_eq z y)

    pub stands_next : (T' : List (List ℕ)) → Parted (λ u v. (u ≡ y) × Prefers T y x v) T T' → Stands ls r T' (set held y x) g'
    stands_next T' p =
        record {
          rows = parted_table r g g' T (λ u v. (u ≡ y) × Prefers T y x v) two_way_ranks s.rows (asked_less r g g' x y a) far near T' p;
          size = p.size ∙ s.size;
          writes = writes_next;
          long = length-set held y x ∙ s.long;
          holding = asked_holding r g g' x y two_way_ranks s.holding a;
          room = λ m l u. asked_within r g g' m x y two_way_ranks l u (s.room m l u) a;
          above = λ e d end. ended_within r anyone e g g' x y two_way_ranks d end refl (s.above e d end) a;
        }

    pub proposal_made : Loose g x → (T' : List (List ℕ)) × Proposes T held x y T' (set held y x)
    proposal_made loose =
        let p = parted_made r g g' T (λ u v. (u ≡ y) × Prefers T y x v) two_way_ranks s.rows (asked_less r g g' x y a) far near in (
          p.0,
          record {
            free = λ z e. ⊎_elim
                (λ c. near_small x y a.first.0.0 (sym e ∙ c.1))
                (λ c. c.0 (sym c.1 ∙ (e ∙ sym (loose z (sym c.1 ∙ e)))))
                (s.writes z);
            first = row_head r g x (row T x) y two_way_ranks (s.rows x) a.first;
            holds = refl;
            parts = p.1;
          },
        )

  -- every run of proposals has its holders
  pub leads_stands : (k : ℕ) (T : List (List ℕ)) (held : List ℕ) → Leads ls k T held → (g : ℕ → ℕ) × Stands ls r T held g
  leads_stands zero T held l = (λ x. x, stands_start T held l.0 l.1)
  leads_stands (suc k) T' held' (T, held, x, y, l, p) =
      let s = leads_stands k T held l in
      let f : First r s.0 x y =
      row_first r s.0 x (y ∷ p.first.0) 0 (subst (RowOf r s.0 x) p.first.1 (s.1.rows x)) (omega arith) in
      let a = asked_made r s.0 x y f in
      (a.0, subst (λ v. Stands ls r T' v a.0) (sym p.holds) (stands_next T held s.0 s.1 x y a.0 a.1 T' p.parts))

  -- where every door with a door on its row is held, proposals have ended
  pub stands_ended : (T : List (List ℕ)) (held : List ℕ) (g : ℕ → ℕ) → Stands ls r T held g → ((x : ℕ) → (row T x ≡ []) ⊎ ((y : ℕ) × (partner held y ≡ x))) → Ended r anyone g
  stands_ended T held g s all x y t on =
      ⊎_elim
      (λ e. absurd (row_empty r g x (row T x) (s.rows x) e y on))
      (λ q. ⊎_elim
      (λ c. absurd (near_small x y on.0 (sym q.1 ∙ c.1)))
      (λ c. (q.0, sym c.1 ∙ q.1, λ e. c.0 (sym c.1 ∙ (q.1 ∙ sym e))))
      (s.writes q.0))
      (all x)

  pub finish_stands : (T : List (List ℕ)) → Finish ls T → (held : List ℕ) × (g : ℕ → ℕ) × Stands ls r T held g × Ended r anyone g
  finish_stands T f =
      let s = leads_stands f.0 T f.1 f.2 in
      (f.1, s.0, s.1, stands_ended T f.1 s.0 s.1 f.3)

  -- proposals finish in one table
  pub finish_one : (T U : List (List ℕ)) → Finish ls T → Finish ls U → T ≡ U
  finish_one T U a b =
      let s = finish_stands T a in
      let t = finish_stands U b in
      let same : (x : ℕ) → s.1 x ≡ t.1 x =
      ended_same r s.1 t.1 two_way_ranks s.2.holding t.2.holding
      (t.2.above s.1 s.2.holding s.3) (s.2.above t.1 t.2.holding t.3) in
      table_one r t.1 T U (s.2.size ∙ sym t.2.size) (subst (λ g. TableOf r g T) (fun_ext same) s.2.rows) t.2.rows

  -- a number past the doors has no row
  pub past_first : (T : List (List ℕ)) → length T ≡ length ls → (x : ℕ) → length ls ≤ x → first T x ≡ x
  past_first T n x b = ap (λ l. get_or l 0 x) (get_or_past T x [] (omega (arith, n, b)))

  pub finish_settled : (T : List (List ℕ)) (held : List ℕ) (g : ℕ → ℕ) → Stands ls r T held g → Ended r anyone g → Settled r g (first T)
  finish_settled T held g s d =
      settled_at_end r g (first T) (length ls) two_way_ranks (rows_firsts r g T s.rows) s.holding d (past_first T s.size)

  -- a door whose row has a door is held, or nobody holds it
  held_or_loose : (T : List (List ℕ)) (held : List ℕ) (g : ℕ → ℕ) → Stands ls r T held g → (x : ℕ) → ((y : ℕ) × (partner held y ≡ x)) ⊎ Loose g x
  held_or_loose T held g s x =
      ⊎_elim
      (λ none. inr (λ w e. ⊎_elim
      (λ b. none w b e)
      (λ b. ⊎_elim
      (λ c. sym c.0 ∙ e)
      (λ c. absurd (c.2 (sym c.1 ∙ get_or_past held w unlinked (omega (arith, s.long, b)))))
      (s.writes w))
      (cases_lt w (length ls))))
      (λ q. inl (q.0, ⊎_elim (λ c. absurd (q.2.1 (sym c.0 ∙ q.2.0))) (λ c. c.1 ∙ q.2.0) (s.writes q.0)))
      (all_or_some (λ q. g q ≡ x → q ≡ x) (λ q. (g q ≡ x) × (q ≡ x → ⊥))
      (λ q. ⊎_elim (λ e. inl (λ _. e)) (λ n. ⊎_elim (λ d. inr (d, n)) (λ m. inl (λ d. absurd (m d))) (cases_eq (g q) x)) (cases_eq q x))
      (length ls))

  -- a proposal lowers the sum of the ranks of the holders
  pub proposal_falls : (g g' : ℕ → ℕ) (x y : ℕ) → Asked r g x y g' → Loose g x → total (λ z. r z (g' z)) (length ls) < total (λ z. r z (g z)) (length ls)
  proposal_falls g g' x y a loose =
      let near : r y x < r y y = two_way_ranks.both x y a.first.0.0 in
      total_falls (λ z. r z (g z)) (λ z. r z (g' z)) (length ls) y (λ z _. asked_less r g g' x y a z) (near_door y x near)
      (⊎_elim
      (λ b. omega (arith, b, ap (r y) a.taken))
      (λ b. absurd (let e : x ≡ g y = two_way_ranks.apart y x (g y) near (omega (arith, b, a.first.0.2)) in
      omega (arith, a.first.0.0, ap (r x) (loose y (sym e)))))
      (cases_lt (r y x) (r y (g y))))

  -- so they finish
  finish_from : (fuel k : ℕ) (T : List (List ℕ)) (held : List ℕ) (g : ℕ → ℕ) → Leads ls k T held → Stands ls r T held g → total (λ z. r z (g z)) (length ls) < fuel → (U : List (List ℕ)) × Finish ls U
  finish_from zero k T held g l s b = absurd (omega arith)
  finish_from (suc fuel) k T held g l s b =
      ⊎_elim
      (λ all. (T, (k, held, l, λ x. ⊎_elim (λ c. all x c) (λ c. inl (get_or_past T x [] (omega (arith, s.size, c)))) (cases_lt x (length ls)))))
      (λ q. let x : ℕ = q.0 in
      let f : First r g x (first T x) = row_first r g x (row T x) x (s.rows x) q.2.0 in
      let a = asked_made r g x (first T x) f in
      let p = proposal_made T held g s x (first T x) a.0 a.1 q.2.1 in
      finish_from fuel (suc k) p.0 (set held (first T x) x) a.0 (T, held, x, first T x, l, p.1)
      (stands_next T held g s x (first T x) a.0 a.1 p.0 p.1.parts) (omega (arith, b, proposal_falls g a.0 x (first T x) a.1 q.2.1)))
      (all_or_some (λ x. (row T x ≡ []) ⊎ ((y : ℕ) × (partner held y ≡ x))) (λ x. (0 < length (row T x)) × Loose g x)
      (λ x. ⊎_elim (λ c. ⊎_elim (λ q. inl (inr q)) (λ q. inr (c, q)) (held_or_loose T held g s x)) (λ c. inl (inl (nil_from (row T x) c))) (cases_lt 0 (length (row T x))))
      (length ls))

  pub finishes : (T : List (List ℕ)) × Finish ls T
  finishes =
      let held : List ℕ = replicate (length ls) unlinked in
      finish_from (suc (total (λ z. r z z) (length ls))) 0 (start ls) held (λ x. x) (start_trimmed ls, refl) (stands_start (start ls) held (start_trimmed ls) refl)
      (omega arith)
