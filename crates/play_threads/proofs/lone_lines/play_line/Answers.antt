use Rattle.std.proofs.Common.{◌≡◌, ◌∷◌, ◌++◌, ◌-◌, [], ap, ◌∙◌, Option, is_some}
use Rattle.egl_calls.specs.Calls.{CallValue}
use Rattle.trace_reader.specs.declared.traces.Line.{Line}
use Rattle.trace_session.proofs.KnownLaws.{line_is}
use Rattle.shared_driver.specs.Cores.{entry}
use Rattle.shared_driver.specs.Tokens.{Token, mine, token_of}
use Rattle.play_threads.proofs.WorkLaws.{lone_learnt_if_ok, lone_played}
use Rattle.play_threads.proofs.lone_lines.play_line.Goals as goal

pub learn_own-requires-clause-line : goal.learn_own-requires-clause-line
learn_own-requires-clause-line c =
    let p = c.args.picker.now in
    let h = c.requires.learnt in
    let lone = c.requires.lone h.learned h.knows in
    ap (λ (o : Option Line). is_some o) (line_is p.session h.learned h.knows p.thread c.requires.below ∙ lone.next)

pub returns-clause-lone : goal.returns-clause-lone
returns-clause-lone c =
    let p = c.args.picker.now in
    let u : Token = token_of c.args.thread.now in
    let v : Token = token_of c.local.new.self in
    let l : Line = c.args.line.now in
    let r = c.in_ok-reply.reply in
    let h = c.requires.learnt in
    let is : record u { tail = u.tail ++ entry u.number l.number c.args.call r ∷ []; places = u.places - 1 } ≡ record u { tail = u.tail ++ entry u.number l.number l.call r ∷ []; places = u.places - 1 } =
    ap (λ (x : CallValue). record u { tail = u.tail ++ entry u.number l.number x r ∷ []; places = u.places - 1 }) c.requires.call in
    let after = c.in_ok-reply.ensures.ok ∙ is in
    let seen : v.seen ≡ u.seen = ap (λ (x : Token). x.seen) after in
    let tail : v.tail ≡ u.tail ++ entry u.number l.number l.call r ∷ [] = ap (λ (x : Token). x.tail) after in
    let own : mine v ≡ mine u ++ entry u.number l.number l.call r ∷ [] = c.in_ok-reply.ensures.mine ∙ ap (λ (x : CallValue). mine u ++ entry u.number l.number x r ∷ []) c.requires.call in
    lone_played u v p c.learn_own.new.self l r c.requires.number c.requires.facts c.requires.below h (c.requires.lone h.learned h.knows) seen tail own

pub returns-clause-learnt : goal.returns-clause-learnt
returns-clause-learnt c =
    let p = c.args.picker.now in
    let u : Token = token_of c.args.thread.now in
    let v : Token = token_of c.local.new.self in
    let l : Line = c.args.line.now in
    let r = c.in_ok-reply.reply in
    let h = c.requires.learnt in
    let is : record u { tail = u.tail ++ entry u.number l.number c.args.call r ∷ []; places = u.places - 1 } ≡ record u { tail = u.tail ++ entry u.number l.number l.call r ∷ []; places = u.places - 1 } =
    ap (λ (x : CallValue). record u { tail = u.tail ++ entry u.number l.number x r ∷ []; places = u.places - 1 }) c.requires.call in
    let after = c.in_ok-reply.ensures.ok ∙ is in
    let seen : v.seen ≡ u.seen = ap (λ (x : Token). x.seen) after in
    let tail : v.tail ≡ u.tail ++ entry u.number l.number l.call r ∷ [] = ap (λ (x : Token). x.tail) after in
    let own : mine v ≡ mine u ++ entry u.number l.number l.call r ∷ [] = c.in_ok-reply.ensures.mine ∙ ap (λ (x : CallValue). mine u ++ entry u.number l.number x r ∷ []) c.requires.call in
    lone_learnt_if_ok u v p c.learn_own.new.self l r c.requires.number c.requires.facts c.requires.below h (c.requires.lone h.learned h.knows) seen tail own c.learn_own.result c.learn_own.ensures.same.0 c.learn_own.ensures.same.2 c.learn_own.ensures.same.3 c.learn_own.ensures.knows
