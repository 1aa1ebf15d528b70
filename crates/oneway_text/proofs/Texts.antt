-- From what the linker answers to what is printed.
use Rattle.std.proofs.Common.{◌≡◌, ℕ, ◌+◌, ◌-◌, ◌*◌, ◌⊎◌, List, length, sym, refl, ap, ◌∙◌, subst, inl, inr, ⊎_elim, arith}
use Rattle.std.proofs.lemmas.List.{length-map}
use Rattle.faults.specs.declared.Fault.{Fault}
use Rattle.faults.specs.declared.Refusal.TheVariants.{WrongSize, BadSide}
use Rattle.linker.specs.OneWay.{Room, FirstBad, SidesFit, linker_fault}
use Rattle.matching.specs.Proposals.{OneWayResult}
use Rattle.text.specs.Digits.{Digits, numbers_of}
use Rattle.text.specs.Lines.{refused_line}
use Rattle.oneway_text.specs.Printed.{linked_text, OneWayText}

module _ (ls : List (List ℕ)) (line sides : List ℕ) (size : length line ≡ length ls) (digits : Digits line) (read : sides ≡ numbers_of line) where
  pub linked : (m m' : List ℕ) (k : ℕ) (text : List ℕ) → SidesFit sides → OneWayResult ls sides m k → m' ≡ m → text ≡ linked_text m' k → OneWayText ls line text
  linked m m' k text fit result same e =
      inr (m, k, size, digits, subst SidesFit read fit, subst (λ s. OneWayResult ls s m k) read result, e ∙ ap (λ p. linked_text p k) same)

  pub unfit : (n : ℕ) (out memory : List ℕ) (f : Fault) (text : List ℕ) → n ≡ length ls → length out ≡ n → length memory ≡ 3 * n * n + 8 * n
      → ((Room (length ls) sides out memory → ⊥) × (f ≡ linker_fault WrongSize 0)) ⊎ (Room (length ls) sides out memory × ((i : ℕ) × FirstBad sides i × (f ≡ linker_fault BadSide i)))
      → text ≡ refused_line f.refusal → OneWayText ls line text
  unfit n out memory f text count written worked why e =
      let sided : length sides ≡ length ls = ap length read ∙ length-map line (λ d. d - 48) ∙ size in
      ⊎_elim (λ w. absurd (w.0 (record { sided = sided; written = written ∙ count; worked = omega (arith, worked ∙ ap (λ k. 3 * k * k + 8 * k) count) })))
      (λ w. let bad = w.1.1 in
      inl (BadSide, inr (inr (size, digits, λ fit. omega (arith, bad.bad, subst SidesFit (sym read) fit w.1.0), refl)), e ∙ ap (λ g. refused_line g.refusal) w.1.2)) why
