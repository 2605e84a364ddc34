use Rattle.std.proofs.Common.{◌≡◌, ◌∙◌, true, false, ap, Some}
use Rattle.egl_model.specs.Parts.{Private}
use Rattle.egl_model.specs.State.{opening}
use Rattle.turn_lock.specs.Passes.{first_of, view_of}
use Rattle.shared_driver.specs.declared.cores.Core.{Core}
use Rattle.shared_driver.specs.declared.cores.TokenCount.{TokenCount}
use Rattle.shared_driver.proofs.Opening.{all_in, begins, first_ready, first_token}
use Rattle.shared_driver.proofs.tokens.Shared.open_for.Goals as goal

pub opened-requires : goal.opened-requires
opened-requires c =
    let windows = c.args.windows.now in
    let x = c.in_ok-core.core in
    let d = c.in_ok-core.ensures in
    let p = c.part_out-part.ensures in
    begins x c.part_out-part.new.self windows c.args.video c.args.most c.requires.most d.driver d.journal d.rooms
    (p.outside (opening windows c.args.video) (first_ready windows c.args.video c.requires.windows) (all_in x (opening windows c.args.video) d.driver.0 d.driver.2)).1 p.driver p.opening p.kept

pub invariant_of-result : goal.invariant_of-result
invariant_of-result c =
    let windows = c.args.windows.now in
    let x = c.in_ok-core.core in
    let d = c.in_ok-core.ensures in
    let p = c.part_out-part.ensures in
    let part = (p.outside (opening windows c.args.video) (first_ready windows c.args.video c.requires.windows) (all_in x (opening windows c.args.video) d.driver.0 d.driver.2)).0 in
    let k = first_token (view_of c.in-Ok.field-0.pass) (first_of c.in-Ok.field-0.turns) x c.part_out-part.new.self c.part_out-part.result c.in_ok-tail.tail.items windows c.args.video c.requires.windows
    c.in-Ok.ensures.pass.2 c.in-Ok.ensures.first d.driver.0 p.opening part c.in_ok-tail.ensures.items (ap (λ r. r.items) p.kept.2 ∙ d.rooms.1) in
    record {
      free = c.in-Ok.ensures.pass.1;
      numbered = k.numbered;
      few = k.few;
      sides = k.sides;
      legal = k.legal;
      local = k.local;
      part = ap (λ (q : Private). Some q) k.part;
      room = k.room;
      used = λ e. absurd (let s : false ≡ true = e in cc);
      many = k.many;
      spare = c.in_ok-tail.ensures.capacity;
      halts = k.halts;
      counted = k.counted;
    }

pub returns-clause-most : goal.returns-clause-most
returns-clause-most c = ap (λ (q : Core). q.tokens.most) c.in-Ok.ensures.first ∙ ap (λ (q : TokenCount). q.most) (c.part_out-part.ensures.kept.1 ∙ c.in_ok-core.ensures.rooms.0)
