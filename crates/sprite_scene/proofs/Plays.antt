-- Calls in a row.
use Rattle.std.proofs.Common.{◌≡◌, List, [], ◌∷◌, ◌++◌, sym, ap, ◌∙◌, subst}
use Rattle.egl_calls.specs.Calls.{CallValue, ReplyValue}
use Rattle.egl_calls.specs.declared.errors.Outcome.TheVariants.{Done}
use Rattle.egl_model.specs.State.{State}
use Rattle.egl_model.specs.Step.{Stepped, step}
use Rattle.sprite_scene.specs.Runs.{AreDone, after}
use Rattle.sprite_scene.proofs.LineCalls.{Goes}

-- calls that are done, and what holds behind them
pub record Plays (s : State) (cs : List CallValue) (P : State → Type 0) : Type 0 where
  pub done : AreDone s cs
  pub holds : P (after s cs)

pub plays_none : (s : State) (P : State → Type 0) → P s → Plays s [] P
plays_none s P p = record { done = tt; holds = p }

pub plays_then : (s : State) (c : CallValue) (cs : List CallValue) (P Q : State → Type 0) → Goes s c P → ((t : State) → P t → Plays t cs Q) → Plays s (c ∷ cs) Q
plays_then s c cs P Q g more = let p = more (step s 0 c).state g.holds in record { done = (g.done, p.done); holds = p.holds }

pub plays_one : (s : State) (c : CallValue) (P Q : State → Type 0) → Goes s c P → ((t : State) → P t → Q t) → Plays s (c ∷ []) Q
plays_one s c P Q g q = record { done = (g.done, tt); holds = q (step s 0 c).state g.holds }

pub plays_append : (s : State) (cs ds : List CallValue) (P Q : State → Type 0) → Plays s cs P → ((t : State) → P t → Plays t ds Q) → Plays s (cs ++ ds) Q
plays_append s [] ds P Q p more = more s p.holds
plays_append s (c ∷ cs) ds P Q p more =
    let rest = plays_append (step s 0 c).state cs ds P Q (record { done = p.done.1; holds = p.holds }) more in
    record { done = (p.done.0, rest.done); holds = rest.holds }

-- a call whose step is known
pub plays_step : (s : State) (c : CallValue) (r : ReplyValue) (t : State) (cs : List CallValue) (Q : State → Type 0) → step s 0 c ≡ record { reply = r; state = t } → r.outcome ≡ Done → Plays t cs Q → Plays s (c ∷ cs) Q
plays_step s c r t cs Q e d p =
    let is : (step s 0 c).state ≡ t = ap (λ (x : Stepped). x.state) e in
    record {
      done = (ap (λ (x : Stepped). x.reply.outcome) e ∙ d, subst (λ u. AreDone u cs) (sym is) p.done);
      holds = subst (λ u. Q (after u cs)) (sym is) p.holds;
    }

pub plays_as : (s : State) (cs : List CallValue) (P Q : State → Type 0) → Plays s cs P → ((t : State) → P t → Q t) → Plays s cs Q
plays_as s cs P Q p q = record { done = p.done; holds = q (after s cs) p.holds }
