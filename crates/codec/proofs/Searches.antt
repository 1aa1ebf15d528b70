-- Every file has a first fault or none: the questions are searched in order, and there are finitely many.
use Rattle.std.proofs.Common.{◌≡◌, ℕ, zero, suc, ◌<◌, ◌⊎◌, List, Some, None, Option, refl, ap, ◌∙◌, subst, inl, inr, ⊎_elim, arith}
use Rattle.std.proofs.lemmas.Bool.{cases_lt, le-ltb}
use Rattle.faults.specs.declared.Fault.{Fault}
use Rattle.codec.specs.Findings.{block_finding, doors, finding, Clean, First, NoFault, FirstFault}
use Rattle.codec.proofs.Judging.{past_clean}

either_way : (o : Option Fault) → (o ≡ None) ⊎ ((f : Fault) × (o ≡ Some f))
either_way None = inl refl
either_way (Some f) = inr (f, refl)

-- one question more
one_more : (ask : ℕ → Option Fault) (m : ℕ) → ((q : ℕ) → q < m → ask q ≡ None) → ((f : Fault) × First ask f) ⊎ ((q : ℕ) → q < suc m → ask q ≡ None)
one_more ask m clean =
    ⊎_elim (λ e. inr (λ q l. ⊎_elim (λ b. clean q b) (λ b. ap ask (omega arith) ∙ e) (cases_lt q m)))
    (λ w. inl (w.0, record { question = m; found = w.1; before = clean })) (either_way (ask m))

search_questions : (ask : ℕ → Option Fault) (m : ℕ) → ((f : Fault) × First ask f) ⊎ ((q : ℕ) → q < m → ask q ≡ None)
search_questions ask zero = inr (λ q l. absurd (omega arith))
search_questions ask (suc m) = ⊎_elim inl (one_more ask m) (search_questions ask m)

-- after the 513 questions about the first block nothing new is asked, and so after the 511 about another
far_head : (bytes : List ℕ) → ((q : ℕ) → q < 513 → finding bytes 0 q ≡ None) → Clean (finding bytes 0)
unfolding finding
far_head bytes clean zero = clean 0 (omega arith)
far_head bytes clean (suc q) = ⊎_elim (λ l. clean (suc q) (omega arith)) (λ l. grind (arith, le-ltb q 511 (omega arith), clean 512 (omega arith))) (cases_lt q 512)

far_row : (bytes : List ℕ) (d : ℕ) → ((q : ℕ) → q < 513 → finding bytes (suc d) q ≡ None) → Clean (finding bytes (suc d))
unfolding finding block_finding
far_row bytes d clean zero = clean 0 (omega arith)
far_row bytes d clean (suc q) = ⊎_elim (λ l. clean (suc q) (omega arith)) (λ l. grind (arith, le-ltb q 510 (omega arith))) (cases_lt q 512)

far : (bytes : List ℕ) (b : ℕ) → ((q : ℕ) → q < 513 → finding bytes b q ≡ None) → Clean (finding bytes b)
far bytes zero clean = far_head bytes clean
far bytes (suc d) clean = far_row bytes d clean

-- one block more
block_more : (bytes : List ℕ) (m : ℕ) → ((b : ℕ) → b < m → Clean (finding bytes b)) → ((f : Fault) × FirstFault bytes f) ⊎ ((b : ℕ) → b < suc m → Clean (finding bytes b))
block_more bytes m clean =
    ⊎_elim (λ w. inl (w.0, record { block = m; first = w.1; before = clean }))
    (λ none. inr (λ b l. ⊎_elim (λ near. clean b near) (λ near. subst (λ k. Clean (finding bytes k)) (omega arith) (far bytes m none)) (cases_lt b m))) (search_questions (finding bytes m) 513)

search_blocks : (bytes : List ℕ) (m : ℕ) → ((f : Fault) × FirstFault bytes f) ⊎ ((b : ℕ) → b < m → Clean (finding bytes b))
search_blocks bytes zero = inr (λ b l. absurd (omega arith))
search_blocks bytes (suc m) = ⊎_elim inl (block_more bytes m) (search_blocks bytes m)

-- no block follows those of the doors
past_all : (bytes : List ℕ) → ((b : ℕ) → b < suc (doors bytes) → Clean (finding bytes b)) → NoFault bytes
past_all bytes clean zero = clean 0 (omega arith)
past_all bytes clean (suc d) = ⊎_elim (λ l. clean (suc d) (omega arith)) (λ l. past_clean bytes d l) (cases_lt d (doors bytes))

pub fault_or_none : (bytes : List ℕ) → ((f : Fault) × FirstFault bytes f) ⊎ NoFault bytes
fault_or_none bytes = ⊎_elim inl (λ clean. inr (past_all bytes clean)) (search_blocks bytes (suc (doors bytes)))
