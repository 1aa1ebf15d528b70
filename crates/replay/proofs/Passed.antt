-- What is so where no check applies.
use Rattle.std.proofs.Common.{◌≡◌, ℕ, ◌<◌, Bool, true, false, not, eqb, leb, List, length, is_some, Some, None, Option, refl, arith}
use Rattle.std.proofs.lemmas.Bool.{leb-false, not-false}
use Rattle.faults.specs.declared.Fault.{Fault}
use Rattle.faults.specs.declared.Refusal.{Refusal}
use Rattle.faults.specs.declared.Refusal.TheVariants.{NoSuchDoor, SameDoor, DoorGone, DoorHeld, NotListed, TableFull, NotHolder, ClaimsSpent}
use Rattle.matching.specs.Linkings.{listed}
use Rattle.matching.specs.Lists.{row, place}
use Rattle.replay.specs.History.{History, granted, gone, held, lists, either, this, forbidden, favours}
use Rattle.level.specs.Checks.{refuses, ◌or◌}
use Rattle.level.specs.Tables.{full}
use Rattle.replay.specs.Law.{most, fault_of_claim, fault_of_free, pair_fault, fault_of_forbid, fault_of_favour}

-- a check that found nothing does not apply
pub passed : (b : Bool) (r : Refusal) (d : ℕ) → refuses b r d ≡ None → b ≡ false
passed true r d e = let z : ◌≡◌ {A = ℕ} 0 1 = cc in absurd (omega arith)
passed false r d e = refl

-- checks that found nothing, one after the other
pub both_passed : (p q : Option Fault) → (p or q) ≡ None → (p ≡ None) × (q ≡ None)
both_passed None q e = (refl, e)
both_passed (Some f) q e = let z : ◌≡◌ {A = ℕ} 0 1 = cc in absurd (omega arith)

pub record ClaimPassed (n : ℕ) (h : History) (d : ℕ) : Type 0 where
  pub known : d < n
  pub stands : gone h d ≡ false
  pub unheld : held h d ≡ false

pub claim_passed : (n : ℕ) (h : History) (d : ℕ) → fault_of_claim n h d ≡ None → ClaimPassed n h d
claim_passed n h d e =
    let a = both_passed (refuses (leb n d) NoSuchDoor d or refuses (gone h d) DoorGone d or refuses (held h d) DoorHeld d) (refuses (leb most (granted h)) ClaimsSpent d) e in
    let b = both_passed (refuses (leb n d) NoSuchDoor d or refuses (gone h d) DoorGone d) (refuses (held h d) DoorHeld d) a.0 in
    let c = both_passed (refuses (leb n d) NoSuchDoor d) (refuses (gone h d) DoorGone d) b.0 in
    record { known = leb-false n d (passed (leb n d) NoSuchDoor d c.0); stands = passed (gone h d) DoorGone d c.1; unheld = passed (held h d) DoorHeld d b.1 }

pub record FreePassed (n : ℕ) (h : History) (d : ℕ) : Type 0 where
  pub known : d < n
  pub stands : gone h d ≡ false

pub free_passed : (n : ℕ) (h : History) (d : ℕ) → fault_of_free n h d ≡ None → FreePassed n h d
free_passed n h d e =
    let a = both_passed (refuses (leb n d) NoSuchDoor d or refuses (gone h d) DoorGone d) (refuses (not (held h d)) NotHolder d) e in
    let b = both_passed (refuses (leb n d) NoSuchDoor d) (refuses (gone h d) DoorGone d) a.0 in
    record { known = leb-false n d (passed (leb n d) NoSuchDoor d b.0); stands = passed (gone h d) DoorGone d b.1 }

pub record PairPassed (h : History) (a b : ℕ) : Type 0 where
  pub one : gone h a ≡ false
  pub other : gone h b ≡ false

pub pair_passed : (n : ℕ) (h : History) (a b : ℕ) → pair_fault n h a b ≡ None → PairPassed h a b
pair_passed n h a b e =
    let known = refuses (leb n a) NoSuchDoor a or refuses (leb n b) NoSuchDoor b or refuses (eqb a b) SameDoor b in
    let four = known or refuses (gone h a) DoorGone a in
    let five = four or refuses (gone h b) DoorGone b in
    let x = both_passed (five or refuses (held h a) DoorHeld a) (refuses (held h b) DoorHeld b) e in
    let y = both_passed five (refuses (held h a) DoorHeld a) x.0 in
    let z = both_passed four (refuses (gone h b) DoorGone b) y.0 in
    let w = both_passed known (refuses (gone h a) DoorGone a) z.0 in
    record { one = passed (gone h a) DoorGone a w.1; other = passed (gone h b) DoorGone b z.1 }

pub forbid_passed : (n : ℕ) (h : History) (a b : ℕ) → fault_of_forbid n h a b ≡ None → PairPassed h a b × (full (either a b) (forbidden h) ≡ false)
forbid_passed n h a b e =
    let x = both_passed (pair_fault n h a b) (refuses (full (either a b) (forbidden h)) TableFull a) e in
    (pair_passed n h a b x.0, passed (full (either a b) (forbidden h)) TableFull a x.1)

pub favour_passed : (ls : List (List ℕ)) (h : History) (a b : ℕ) → fault_of_favour ls h a b ≡ None → PairPassed h a b × (listed (lists ls h) a b ≡ true) × (full (this a b) (favours h) ≡ false)
unfolding listed
favour_passed ls h a b e =
    let found = is_some (place (row (lists ls h) a) b) in
    let x = both_passed (pair_fault (length ls) h a b or refuses (not found) NotListed b) (refuses (full (this a b) (favours h)) TableFull a) e in
    let y = both_passed (pair_fault (length ls) h a b) (refuses (not found) NotListed b) x.0 in
    (pair_passed (length ls) h a b y.0, not-false found (passed (not found) NotListed b y.1), passed (full (this a b) (favours h)) TableFull a x.1)
