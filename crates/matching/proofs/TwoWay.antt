-- The theorem of two-way linking, from the theory's form back to lists.
use Rattle.std.proofs.Common.{◌≡◌, ℕ, true, List, length, is_some, Some, None, Option, sym, refl, subst, inl, inr, ⊎_elim}
use Rattle.matching.specs.Lists.{row, place, PlaceOf, Lawful}
use Rattle.matching.specs.Linkings.{listed, accept, Linking, BlockingPair, Stable}
use Rattle.matching.specs.Ranks.{Links, Unblocked, Within}
use Rattle.matching.specs.TwoWay.{Outcome, Inside, ProposalsAgree, SomeStays, TwoWayDecides}
use Rattle.matching.specs.Holders.{Writes, In, TableOf}
use Rattle.matching.proofs.Rows.{place_view}
use Rattle.matching.proofs.Bridge.{Ranking, accept_pairing, trim_rank, trim_ranking, link_of, linking_writes, links_writes, writes_stable, linking_links, stable_unblocked, written, written_writes, written_linking, written_stable}
use Rattle.matching.proofs.Decided.{stable_or_blocked}
use Rattle.matching.proofs.Settled.{partner_on}
use Rattle.matching.proofs.Tables.{at_in}
use Rattle.matching.proofs.Finishing.{finish_stands, finish_one, finishes}
use Rattle.matching.proofs.Reducing.{reduces_reduced, outcome_none, outcome_links, outcome_one, outcome_exists}

module _ (ls : List (List ℕ)) (h : Lawful ls) where
  r : ℕ → ℕ → ℕ
  r = trim_rank ls (accept ls)

  o : Ranking ls (accept ls) r
  unfolding r
  o = trim_ranking ls (accept ls) h (accept_pairing ls)

  -- a stable linking as a function
  as_links : (m : List ℕ) → Linking ls (accept ls) m → Links r (link_of m)
  as_links = linking_links ls (accept ls) r h (accept_pairing ls) o

  as_unblocked : (m : List ℕ) → Linking ls (accept ls) m → Stable ls (accept ls) m → Unblocked r (link_of m)
  as_unblocked = stable_unblocked ls (accept ls) r h (accept_pairing ls) o

  some_linking : (m : List ℕ) → Outcome ls (Some m) → Linking ls (accept ls) m
  some_linking m a =
      let w = outcome_links ls h r o m a in
      links_writes ls (accept ls) r h (accept_pairing ls) o w.0 m w.1 w.4 w.2

  some_stable : (m : List ℕ) → Outcome ls (Some m) → Stable ls (accept ls) m
  some_stable m a =
      let w = outcome_links ls h r o m a in
      writes_stable ls (accept ls) r h (accept_pairing ls) o w.0 m w.1 w.2 w.3

  none_blocked : Outcome ls None → (m : List ℕ) → Linking ls (accept ls) m → (x : ℕ) × (y : ℕ) × BlockingPair ls (accept ls) m x y
  none_blocked a m l =
      ⊎_elim
      (λ s. absurd (outcome_none ls h r o a (link_of m) (as_links m l) (as_unblocked m l s)))
      (λ q. q)
      (stable_or_blocked ls (accept ls) m h (accept_pairing ls) l)

  nothing_stable : ((m : List ℕ) → Linking ls (accept ls) m → Stable ls (accept ls) m → ⊥) → (a : Option (List ℕ)) → Outcome ls a → Outcome ls None
  nothing_stable n None a = a
  nothing_stable n (Some m) a = absurd (n m (some_linking m a) (some_stable m a))

  -- a linking within the holders of a table is inside the table
  inside_from : (T : List (List ℕ)) (g t : ℕ → ℕ) (m : List ℕ) → TableOf r g T → Links r t → Within r g t → Writes t m → Inside T m
  unfolding listed
  inside_from T g t m rows l w writes x =
      ⊎_elim
      (λ c. inl c.1)
      (λ c. ⊎_elim
      (λ e. absurd (c.0 e))
      (λ on. inr (subst (λ y. is_some (place (row T x) y) ≡ true) (sym c.1) (on_list (row T x) (t x) (place (row T x) (t x)) ((rows x).all (t x) on) (place_view (row T x) (t x)))))
      (partner_on r g t l w x))
      (writes x)
    where
      on_list : (l : List ℕ) (y : ℕ) (p : Option ℕ) → In y l → PlaceOf l y p → is_some p ≡ true
      on_list l y None i v = absurd (let k = at_in l 0 y i in v k.0 k.1 k.2)
      on_list l y (Some p) i v = refl

  pub finished_proposals_agree : ProposalsAgree ls
  finished_proposals_agree =
      record {
        finish = finishes ls h r o;
        one = finish_one ls h r o;
        inside = λ T m f l s.
            let (held, g, stands, ended) = finish_stands ls h r o T f in
            inside_from T g (link_of m) m stands.rows (as_links m l) (stands.room (link_of m) (as_links m l) (as_unblocked m l s))
            (linking_writes ls (accept ls) r h (accept_pairing ls) o m l);
      }

  pub some_stable_stays : SomeStays ls
  some_stable_stays j T m f l s =
      let (g, on) = reduces_reduced ls h r o j T f in
      let (t, stays) = on.room (link_of m) (as_links m l) (as_unblocked m l s) in (
        written (length ls) t,
        written_linking ls (accept ls) r h (accept_pairing ls) o t stays.links,
        written_stable ls (accept ls) r h (accept_pairing ls) o t stays.links stays.unblocked,
        inside_from T g t (written (length ls) t) on.rows stays.links stays.within (written_writes ls (accept ls) r h (accept_pairing ls) o t stays.links),
      )

  pub two_way_is_decided : TwoWayDecides ls
  two_way_is_decided =
      record {
        some = outcome_exists ls h r o;
        one = outcome_one ls h r o;
        linking = some_linking;
        stable = some_stable;
        blocked = none_blocked;
        nothing = λ n. nothing_stable n (outcome_exists ls h r o).0 (outcome_exists ls h r o).1;
      }
