use Rattle.shared_driver.specs.Tokens.{Token, token_of}
use Rattle.play_threads.proofs.PlayLaws.{follows_owned, play_on}
use Rattle.play_threads.proofs.plays.close.Goals as goal

pub returns-then-live-eq1-clause-follows : goal.returns-then-live-eq1-clause-follows
returns-then-live-eq1-clause-follows g c t o =
    let u : Token = token_of c.live.new.thread in
    let before = c.waiting.invariant.1 t o in
    follows_owned t u c.close.result.journal.entries (play_on t (token_of c.waiting.thread) u c.live.ensures.same.0 c.live.ensures.same.1 c.live.ensures.seen before) c.close.ensures.journal c.close.ensures.owned

pub waiting-preserved : goal.waiting-preserved
waiting-preserved g c =
    (c.live.ensures.owns, λ t o. play_on t (token_of c.waiting.thread) (token_of c.live.new.thread) c.live.ensures.same.0 c.live.ensures.same.1 c.live.ensures.seen (c.waiting.invariant.1 t o))
