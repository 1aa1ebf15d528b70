use Rattle.std.proofs.Common.{◌≡◌, string_bytes, sym, refl, ◌∙◌, inl, inr}
use Rattle.std.proofs.lemmas.List.{with_items_is}
use Rattle.std.proofs.lemmas.Result.{IfOk-weaker}
use Rattle.faults.specs.declared.Refusal.TheVariants.{WrongSize, UnreadLine}
use Rattle.text.specs.Lines.{refused_line}
use Rattle.oneway_text.specs.Printed.{linked_text}
use Rattle.oneway_text.proofs.Texts.{linked, unfit}
use Rattle.oneway_text.proofs.one_way_lines.Goals as goal

pub returns-then-line-n : goal.returns-then-line-n
returns-then-line-n g c =
    IfOk-weaker c.refused_line.result (λ s. string_bytes s ≡ refused_line WrongSize) _
    (λ s e. inl (WrongSize, inl (λ same. c.if-line-n.true (same ∙ sym (c.from-n.ensures ∙ c.count.ensures)), refl), e)) c.refused_line.ensures

pub returns-in_default : goal.returns-in_default
returns-in_default g c =
    IfOk-weaker c.refused_line-in_default.result (λ s. string_bytes s ≡ refused_line UnreadLine) _
    (λ s e. inl (UnreadLine, inr (inl (c.if-line-n.false ∙ c.from-n.ensures ∙ c.count.ensures, rw c.in_default.is at c.in_ok-sides.ensures, refl)), e)) c.refused_line-in_default.ensures

pub returns-in-Ok : goal.returns-in-Ok
returns-in-Ok g c =
    let ls = g.S.Source.lists c.args.source.now in
    let line = c.args.line.now in
    let read = rw c.in-Some.is at c.in_ok-sides.ensures in
    let answer = c.in-Ok.ensures in
    IfOk-weaker c.linked_text.result (λ s. string_bytes s ≡ linked_text c.deref-in-Ok.result.now c.in-Ok.proposals) _
    (λ s e. linked ls line c.deref.result.now (c.if-line-n.false ∙ c.from-n.ensures ∙ c.count.ensures) read.0 (c.deref.ensures.value ∙ read.1)
    c.one_way_link.new.out c.deref-in-Ok.result.now c.in-Ok.proposals (string_bytes s) answer.1 answer.2
    (c.deref-in-Ok.ensures.value ∙ with_items_is c.in_ok-partners.partners c.one_way_link.new.out (c.one_way_link.auto.out ∙ c.deref_mut.ensures.len)) e) c.linked_text.ensures

pub returns : goal.returns
returns g c =
    let ls = g.S.Source.lists c.args.source.now in
    let line = c.args.line.now in
    let read = rw c.in-Some.is at c.in_ok-sides.ensures in
    let answer = c.in-Err.ensures in
    IfOk-weaker c.refused_line-in-Err.result (λ s. string_bytes s ≡ refused_line c.in-Err.fault.refusal) _
    (λ s e. unfit ls line c.deref.result.now (c.if-line-n.false ∙ c.from-n.ensures ∙ c.count.ensures) read.0 (c.deref.ensures.value ∙ read.1)
    c.from-n.result c.deref_mut.result.now c.deref_mut-2.result.now c.in-Err.fault (string_bytes s) (c.from-n.ensures ∙ c.count.ensures)
    (c.deref_mut.ensures.len ∙ c.in_ok-partners.ensures.len) (c.deref_mut-2.ensures.len ∙ c.in_ok-memory.ensures.len) answer.2 e) c.refused_line-in-Err.ensures
