use Rattle.std.proofs.Common.{refl}
use Rattle.egl_model.specs.History.{replay_from}
use Rattle.shared_driver.specs.Tokens.{Token, opening_of, token_of}
use Rattle.screen_compose.proofs.ShownLaws.{shown_placed}
use Rattle.screen_compose.proofs.SnapshotLaws.{shown_in_turn}
use Rattle.screen_compose.proofs.snapshots.snapshot.Goals as goal

pub returns-clause-fronts : goal.returns-clause-fronts
returns-clause-fronts g c =
    let ok = c.in_ok-call_picked.ensures.ok in
    let v : Token = token_of c.call_picked.new.thread in
    rw (shown_in_turn (opening_of c.args.shared.now) (token_of c.args.thread.now).number ok.1 ok.2 c.in_ok-call_picked.field-0 ok.0 v.seen c.args.placed.now c.call_picked.new.picker.fronts ok.3.driver ok.4.0 ok.4.1 ok.5.seen) refl

pub returns-clause-same : goal.returns-clause-same
returns-clause-same g c =
    let ok = c.in_ok-call_picked.ensures.ok in
    let v : Token = token_of c.call_picked.new.thread in
    rw (shown_in_turn (opening_of c.args.shared.now) (token_of c.args.thread.now).number ok.1 ok.2 c.in_ok-call_picked.field-0 ok.0 v.seen c.args.placed.now c.call_picked.new.picker.fronts ok.3.driver ok.4.0 ok.4.1 ok.5.seen) (shown_placed (replay_from (opening_of c.args.shared.now) v.seen).windows c.args.placed.now)
