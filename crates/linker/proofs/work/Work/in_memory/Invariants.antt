use Rattle.std.proofs.Common.{◌≡◌, ℕ, ◌<◌}
use Rattle.linker.specs.Holders.{lasts}
use Rattle.linker.proofs.work.Work.in_memory.Given as goal

abbrev pub invariant-loop-x : goal.invariant-loop-x
invariant-loop-x l = (w : ℕ) → w < l.x → lasts l.holder w ≡ w
