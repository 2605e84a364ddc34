-- What comes of picks.
use Rattle.std.specs.Prelude.{◌≡◌, ◌<◌, ℕ, Bool, false, List, [], ◌∷◌, ◌++◌, Option, None, slice_index_or}
use Rattle.egl_calls.specs.Journals.{is_halt_kind}
use Rattle.egl_calls.specs.declared.entries.Entry.{Entry}
use Rattle.model_laws.specs.Hidden.{hide}
use Rattle.egl_model.specs.History.{IsLegalFrom, replay_from}
use Rattle.egl_model.specs.State.{State}
use Rattle.egl_model.specs.Step.{step}
use Rattle.driver_core.specs.LateDraws.{IsLeft}
use Rattle.driver_core.specs.Machine.{Machine, outs}
use Rattle.driver_core.specs.declared.drawings.Drawing.{Drawing}
use Rattle.shared_driver.specs.declared.cores.Core.{Core}
use Rattle.shared_driver.specs.declared.picks.Pick.{Pick}
use Rattle.shared_driver.specs.declared.picks.Pick.TheVariants.{Call, Wait, Stop}
use Rattle.shared_driver.specs.declared.picks.Picked.{Picked}
use Rattle.shared_driver.specs.declared.picks.Picked.TheVariants.{Replied, Waited, Stopped}
use Rattle.shared_driver.specs.Cores.{entry}
use Rattle.shared_driver.specs.Tokens.{AreOthers, Token, mine}

abbrev pub halts : Pick → Bool
halts (Call mark call) = is_halt_kind call.kind
halts p = false

-- the entries that come of a pick of the token n
abbrev pub picked_entries : ℕ → Pick → Picked → List Entry
picked_entries n (Call mark call) (Replied reply) = entry n mark call reply ∷ []
picked_entries n p r = []

-- each answer comes exactly by its pick
abbrev pub IsAnswer : Pick → Picked → Type 0
IsAnswer (Call mark call) (Replied reply) = Unit {0}
IsAnswer (Wait what) Waited = Unit {0}
IsAnswer Stop Stopped = Unit {0}
IsAnswer p r = ⊥

-- the value y is x, with the entry of the picked call, if one was picked, which may have left a draw
abbrev pub IsDone : Core → ℕ → Pick → Picked → Option Drawing → Core → Type 0
IsDone x n (Call mark call) (Replied reply) left y =
    (y.journal.entries ≡ x.journal.entries ++ entry n mark call reply ∷ []) × (reply ≡ (step x.driver.state n call).reply) × IsLeft x.driver n call left y.driver
IsDone x n (Wait what) Waited None y = (y.journal.entries ≡ x.journal.entries) × (y.driver ≡ x.driver)
IsDone x n Stop Stopped None y = (y.journal.entries ≡ x.journal.entries) × (y.driver ≡ x.driver)
IsDone x n p r left y = ⊥

-- the journal in a token's turn, in which it has handed in
abbrev pub IsAtTurn : Token → List Entry → Type 0
IsAtTurn t es = (between : List Entry) × AreOthers t between × (es ≡ (t.seen ++ between) ++ t.tail)

-- the journal and the driver that a picker sees in a token's turn, in a lock that begins with this state: only the parts of other threads may be out
pub record IsSeenAtTurn (s : State) (t : Token) (es : List Entry) (d : Machine) : Type 0 where
  pub legal : IsLegalFrom s es
  pub at_turn : IsAtTurn t es
  pub driver : d.state ≡ hide (outs d.away) (replay_from s es)
  pub made : t.number < d.made
  pub part_in : slice_index_or d.away t.number false ≡ false

-- the answer came by the pick, and the token, which was t, has now seen the journal of its turn and the pick's entries
pub record ComesOf (t : Token) (es : List Entry) (p : Pick) (r : Picked) (u : Token) : Type 0 where
  pub answer : IsAnswer p r
  pub seen : u.seen ≡ es ++ picked_entries t.number p r
  pub own : mine u ≡ mine t ++ picked_entries t.number p r
