-- Finite searches: a linking is stable or has a blocking pair.
use Rattle.std.proofs.Common.{◌≡◌, ℕ, ◌<◌, Bool, true, ◌⊎◌, List, length, inl, inr, ⊎_elim, arith}
use Rattle.std.proofs.lemmas.Bool.{cases_lt}
use Rattle.matching.specs.Lists.{Lawful}
use Rattle.matching.specs.Ranks.{Links, Blocked}
use Rattle.matching.specs.Linkings.{Linking, BlockingPair, Stable}
use Rattle.matching.specs.Holders.{row_rank, Writes}
use Rattle.matching.proofs.Proposing.{at_most}
use Rattle.matching.proofs.Search.{all_or_some}
use Rattle.matching.proofs.Bridge.{Pairing, Ranking, row_ranking, near_pair, pair_door, link_of, linking_writes, writes_links, writes_stable, writes_blocking}

pub stable_or_blocked : (ls : List (List ℕ)) (pairs : ℕ → ℕ → Bool) (m : List ℕ) → Lawful ls → Pairing ls pairs → Linking ls pairs m →
    Stable ls pairs m ⊎ ((x : ℕ) × (y : ℕ) × BlockingPair ls pairs m x y)
stable_or_blocked ls pairs m f p l =
    ⊎_elim
    (λ all. inl (writes_stable ls pairs r f p o (link_of m) m w k (λ x y a b. all x (door y x (p.both x y (near x y a))) y (door x y (near x y a)) (a, b))))
    (λ one. inr (one.0, one.2.0, writes_blocking ls pairs r f p o (link_of m) m w k one.0 one.2.0 one.2.2.0 one.2.2.1))
    (all_or_some (λ x. (y : ℕ) → y < length ls → Blocked r (link_of m) x y → ⊥) (λ x. (y : ℕ) × (y < length ls) × Blocked r (link_of m) x y)
    (λ x. all_or_some (λ y. Blocked r (link_of m) x y → ⊥) (Blocked r (link_of m) x) (λ y. pair x y) (length ls)) (length ls))
  where
    r : ℕ → ℕ → ℕ
    r = row_rank ls pairs

    o : Ranking ls pairs r
    o = row_ranking ls pairs f p

    w : Writes (link_of m) m
    w = linking_writes ls pairs r f p o m l

    k : Links r (link_of m)
    k = writes_links ls pairs r f p o (link_of m) m w l

    near : (x y : ℕ) → r x y < r x (link_of m x) → pairs x y ≡ true
    near x y a = near_pair ls pairs f p r o x y (omega (arith, a, at_most r (link_of m) k x))

    door : (x y : ℕ) → pairs x y ≡ true → y < length ls
    door = pair_door ls pairs f p

    pair : (x y : ℕ) → (Blocked r (link_of m) x y → ⊥) ⊎ Blocked r (link_of m) x y
    pair x y =
        ⊎_elim
        (λ a. ⊎_elim (λ b. inr (a, b)) (λ b. inl (λ c. omega (arith, b, c.1))) (cases_lt (r y x) (r y (link_of m y))))
        (λ a. inl (λ c. omega (arith, a, c.0)))
        (cases_lt (r x y) (r x (link_of m x)))
