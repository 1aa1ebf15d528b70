-- Searches over the numbers below a bound: some number passes or all fail, a least one, a repeat, an injection that is onto; and sums.
use Rattle.std.proofs.Common.{◌≡◌, ℕ, zero, suc, ◌+◌, ◌<◌, ◌≤◌, ◌⊎◌, sym, refl, ap, subst, inl, inr, ⊎_elim, arith}
use Rattle.std.proofs.lemmas.Bool.{cases_eq, cases_lt}
use Rattle.matching.specs.Holders.{total}

-- where each number is P or Q, all below n are P or one is Q
pub all_or_some : (P Q : ℕ → Type 0) → ((k : ℕ) → P k ⊎ Q k) → (n : ℕ) → ((k : ℕ) → k < n → P k) ⊎ ((k : ℕ) × (k < n) × Q k)
all_or_some P Q each zero = inl (λ k i. absurd (omega arith))
all_or_some P Q each (suc n) =
    ⊎_elim
    (λ all. ⊎_elim
    (λ p. inl (λ k i. ⊎_elim (λ e. subst P (sym e) p) (λ ne. all k (omega arith)) (cases_eq k n)))
    (λ q. inr (n, omega arith, q))
    (each n))
    (λ some. inr (some.0, omega (arith, some.1), some.2))
    (all_or_some P Q each n)

-- none below n is Q, or one is with the least value
pub none_or_least : (Q : ℕ → Type 0) (v : ℕ → ℕ) → ((k : ℕ) → (Q k → ⊥) ⊎ Q k) → (n : ℕ)
    → ((k : ℕ) → k < n → Q k → ⊥) ⊎ ((k : ℕ) × (k < n) × Q k × ((j : ℕ) → j < n → Q j → v k ≤ v j))
none_or_least Q v each zero = inl (λ k i q. omega arith)
none_or_least Q v each (suc n) =
    ⊎_elim
    (λ none. ⊎_elim
    (λ not. inl (λ k i q. ⊎_elim (λ e. not (subst Q e q)) (λ ne. none k (omega arith) q) (cases_eq k n)))
    (λ q. inr (n, omega arith, q, λ j i w. ⊎_elim (λ e. omega (arith, ap v e)) (λ ne. absurd (none j (omega arith) w)) (cases_eq j n)))
    (each n))
    (λ least. ⊎_elim
    (λ not. inr (least.0, omega (arith, least.1), least.2, λ j i w. ⊎_elim (λ e. absurd (not (subst Q e w))) (λ ne. least.3 j (omega arith) w) (cases_eq j n)))
    (λ q. ⊎_elim
    (λ less. inr (n, omega arith, q, λ j i w. ⊎_elim (λ e. omega (arith, ap v e)) (λ ne. omega (arith, less, least.3 j (omega arith) w)) (cases_eq j n)))
    (λ more. inr (least.0, omega (arith, least.1), least.2, λ j i w. ⊎_elim (λ e. omega (arith, more, ap v e)) (λ ne. least.3 j (omega arith) w) (cases_eq j n)))
    (cases_lt (v n) (v least.0)))
    (each n))
    (none_or_least Q v each n)

-- v, with c in the place of the value n
without : (n c w : ℕ) → (w ≡ n) ⊎ (w ≡ n → ⊥) → ℕ
without n c w (inl e) = c
without n c w (inr ne) = w

without_view : (n c w : ℕ) (d : (w ≡ n) ⊎ (w ≡ n → ⊥)) → ((w ≡ n) × (without n c w d ≡ c)) ⊎ ((w ≡ n → ⊥) × (without n c w d ≡ w))
unfolding without
without_view n c w (inl e) = inl (e, refl)
without_view n c w (inr ne) = inr (ne, refl)

-- a walk of n + 1 steps over numbers below n comes to one number twice
abbrev pub Repeat : (ℕ → ℕ) → ℕ → Type 0
Repeat w n = (i : ℕ) × (j : ℕ) × (i < j) × (j ≤ n) × (w i ≡ w j)

pub walk_repeats : (n : ℕ) (w : ℕ → ℕ) → ((k : ℕ) → k ≤ n → w k < n) → Repeat w n
walk_repeats zero w below = absurd (omega (arith, below 0 (omega arith)))
walk_repeats (suc n) w below =
    ⊎_elim
    (λ fresh.
    let u : ℕ → ℕ = λ k. without n (w (suc n)) (w k) (cases_eq (w k) n) in
    let view : (k : ℕ) → ((w k ≡ n) × (u k ≡ w (suc n))) ⊎ ((w k ≡ n → ⊥) × (u k ≡ w k)) = λ k. without_view n (w (suc n)) (w k) (cases_eq (w k) n) in
    let again : Repeat u n = walk_repeats n u (λ k i. let f = fresh k (omega arith) in grind (arith, view k, f, below k (omega arith), below (suc n) (omega arith))) in
    let i : ℕ = again.0 in
    let j : ℕ = again.1 in
    (i, j, again.2, omega (arith, again.3), grind (arith, view i, view j, fresh i (omega (arith, again.2, again.3)), fresh j (omega (arith, again.3)), again.4)))
    (λ same. (same.0, suc n, same.1, omega arith, same.2))
    (all_or_some (λ k. w k ≡ w (suc n) → ⊥) (λ k. w k ≡ w (suc n)) (λ k. ⊎_elim inr inl (cases_eq (w k) (w (suc n)))) (suc n))

-- an injection of the numbers below n into themselves is onto
extended : (f : ℕ → ℕ) (n y k : ℕ) → (k ≡ n) ⊎ (k ≡ n → ⊥) → ℕ
extended f n y k (inl e) = y
extended f n y k (inr ne) = f k

extended_view : (f : ℕ → ℕ) (n y k : ℕ) (d : (k ≡ n) ⊎ (k ≡ n → ⊥)) → ((k ≡ n) × (extended f n y k d ≡ y)) ⊎ ((k ≡ n → ⊥) × (extended f n y k d ≡ f k))
unfolding extended
extended_view f n y k (inl e) = inl (e, refl)
extended_view f n y k (inr ne) = inr (ne, refl)

pub injection_onto : (n : ℕ) (f : ℕ → ℕ) → ((k : ℕ) → k < n → f k < n) → ((j k : ℕ) → j < n → k < n → f j ≡ f k → j ≡ k)
    → (y : ℕ) → y < n → (x : ℕ) × (x < n) × (f x ≡ y)
injection_onto n f below inj y b =
    ⊎_elim
    (λ missed.
    let u : ℕ → ℕ = λ k. extended f n y k (cases_eq k n) in
    let view : (k : ℕ) → ((k ≡ n) × (u k ≡ y)) ⊎ ((k ≡ n → ⊥) × (u k ≡ f k)) = λ k. extended_view f n y k (cases_eq k n) in
    let again : Repeat u n = walk_repeats n u (λ k i. ⊎_elim (λ v. omega (arith, v.1)) (λ v. let small : k < n = omega (arith, v.0) in omega (arith, v.1, below k small)) (view k)) in
    let i : ℕ = again.0 in
    let j : ℕ = again.1 in
    let small : i < n = omega (arith, again.2, again.3) in
    absurd (⊎_elim
    (λ v. missed i small (grind (arith, view i, v, again.4)))
    (λ v. let less : j < n = omega (arith, again.3, v.0) in omega (arith, again.2, inj i j small less (grind (arith, view i, v, again.4))))
    (view j)))
    (λ hit. hit)
    (all_or_some (λ k. f k ≡ y → ⊥) (λ k. f k ≡ y) (λ k. ⊎_elim inr inl (cases_eq (f k) y)) n)

pub total_le : (v w : ℕ → ℕ) (n : ℕ) → ((k : ℕ) → k < n → w k ≤ v k) → total w n ≤ total v n
unfolding total
total_le v w zero le = omega arith
total_le v w (suc n) le = omega (arith, le n (omega arith), total_le v w n (λ k i. le k (omega arith)))

-- the sum falls where no value rises and one falls
pub total_falls : (v w : ℕ → ℕ) (n x : ℕ) → ((k : ℕ) → k < n → w k ≤ v k) → x < n → w x < v x → total w n < total v n
unfolding total
total_falls v w zero x le b f = absurd (omega arith)
total_falls v w (suc n) x le b f =
    ⊎_elim
    (λ e. omega (arith, ap v e, ap w e, f, total_le v w n (λ k i. le k (omega arith))))
    (λ ne. omega (arith, le n (omega arith), total_falls v w n x (λ k i. le k (omega arith)) (omega arith) f))
    (cases_eq x n)
