-- The end of the two-way linking: the lists have one door at most and are written down, or there is no stable linking.
use Rattle.std.proofs.Common.{◌≡◌, ℕ, List, length, Some, None, inl, inr, ⊎_elim, arith}
use Rattle.std.proofs.lemmas.List.{get_or_past}
use Rattle.std.proofs.lemmas.Bool.{cases_lt}
use Rattle.matching.specs.Lists.{Lawful}
use Rattle.matching.specs.Linkings.{unlinked}
use Rattle.matching.specs.TwoWay.{Outcome}
use Rattle.matching.specs.Holders.{Writes, first, OnTheWay}
use Rattle.matching.proofs.Tables.{rows_firsts}
use Rattle.matching.proofs.Holders.{way_links}
use Rattle.matching.proofs.TwoWay.{two_way_is_decided}
use Rattle.linker.specs.Holders.{ranks, lasts}
use Rattle.linker.specs.Rounds.{Single, Lowered}
use Rattle.linker.specs.Links.{LinkingFound, NoneFound, WritesTo}
use Rattle.linker.proofs.Standing.{orders, ranked_doors}
use Rattle.linker.proofs.Walking.{single_same}

module _ (ls : List (List ℕ)) (law : Lawful ls) where
  -- what is written down is the linking of the last doors
  pub writes_all : (holder out : List ℕ) → OnTheWay ls (ranks ls) (lasts holder) → length holder ≡ length ls → length out ≡ length ls → WritesTo (length ls) holder out → Writes (lasts holder) out
  writes_all holder out way h n w x =
      ⊎_elim
      (λ b. ⊎_elim
      (λ c. inl c)
      (λ c. inr (
        c.0,
        c.1,
        λ e. ⊎_elim (λ i. c.0 i) (λ i. omega (arith, e, law.few, (ranked_doors ls law x (lasts holder x) i).1)) (way.3.settled.held x),
      ))
      (w x b))
      (λ b. inl (get_or_past holder x x (omega (arith, b, h)), get_or_past out x unlinked (omega (arith, b, n))))
      (cases_lt x (length ls))

  pub linking_found : (holder keep first' seconds out : List ℕ) → Lowered ls (length ls) holder keep first' seconds → length out ≡ length ls → WritesTo (length ls) holder out → LinkingFound ls out
  linking_found holder keep first' seconds out l n w =
      let way = l.way in
      let one : (x : ℕ) → Single ls holder x =
      λ x. ⊎_elim (l.single x) (λ b y z o p. absurd (omega (arith, b, (ranked_doors ls law x y o.0).0))) (cases_lt x (length ls)) in
      let end : Outcome ls (Some out) =
      way_links ls law (ranks ls) (orders ls law) (lasts holder) (first way.1) way (rows_firsts (ranks ls) (lasts holder) way.1 way.3.rows) (λ x. single_same ls law holder way x (one x)) out n
      (writes_all holder out way l.marked.doors n w) in
      let d = two_way_is_decided ls law in
      record { outcome = end; only = λ a o. d.one a (Some out) o end; linking = d.linking out end; stable = d.stable out end }

  pub none_found : Outcome ls None → NoneFound ls
  none_found end = let d = two_way_is_decided ls law in record { outcome = end; only = λ a o. d.one a None o end; blocked = d.blocked end }
