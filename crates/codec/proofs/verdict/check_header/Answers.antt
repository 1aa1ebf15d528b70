use Rattle.std.proofs.Common.{◌≡◌, ℕ, ◌<◌, get_or, arith, rules}
use Rattle.codec.specs.Blocks.{opening}
use Rattle.codec.specs.Findings.{header_fault}
use Rattle.codec.proofs.Headers.{opens_clean}
use Rattle.std.proofs.lemmas.Result.{err_from_is_err_and}
use Rattle.codec.proofs.verdict.check_header.Goals as goal

pub returns-in_err-check_block : goal.returns-in_err-check_block
returns-in_err-check_block c =
    let p = err_from_is_err_and c.from_residual.result c.from_residual.ensures.1 in rw (p.1, p.2) (c.in_err-check_block.ensures (header_fault c.args.block.now) (λ i r e. search rules))

pub unreachable-requires : goal.unreachable-requires
unreachable-requires c =
    let at : (i : ℕ) → i < 5 → get_or c.args.block.now i 0 ≡ get_or opening i 0 = opens_clean c.args.block.now (c.in_ok-check_block.ensures (header_fault c.args.block.now) (λ i r e. search rules)) in
    search (rules, at 0 (omega arith), at 1 (omega arith), at 2 (omega arith), at 3 (omega arith), at 4 (omega arith))
