use Rattle.std.proofs.Common.{◌∙◌, ap, sym, rules}
use Rattle.egl_flow.specs.Memory.{SourceValue}
use Rattle.egl_flow.proofs.FlowLaws.{piece_moved}
use Rattle.egl_flow.proofs.memory.MemorySourceSource.take.Goals as goal

pub returns-clause-moved : goal.returns-clause-moved
returns-clause-moved c =
    ap (λ (s : SourceValue). s.left) (sym c.self.view_is)
    ∙ piece_moved c.self.inside.bytes c.copy_front-n.new.into c.split_at.result.1.now c.self.inside.at c.copy_front-n.result (search (rules, c.split_at.ensures.back, c.as_slice-2.ensures)) c.copy_front-n.ensures.piece
