-- What is copied in a turn is what the history shows that the token has then seen.
use Rattle.std.proofs.Common.{◌≡◌, ℕ, List, [], ◌∷◌, ◌++◌, length, refl, sym, ap, ◌∙◌, append-nil, Option, Some}
use Rattle.egl_calls.specs.declared.entries.Entry.{Entry}
use Rattle.surface_store.specs.Windows.{WindowValue}
use Rattle.egl_model.specs.History.{replay_from}
use Rattle.egl_model.specs.State.{State}
use Rattle.model_laws.specs.Hidden.{hide}
use Rattle.driver_core.specs.Machine.{Machine, outs}
use Rattle.shared_driver.specs.Picks.{picked_entries}
use Rattle.shared_driver.specs.declared.picks.Pick.{Pick}
use Rattle.shared_driver.specs.declared.picks.Pick.TheVariants.{Stop}
use Rattle.shared_driver.specs.declared.picks.Picked.{Picked}
use Rattle.screen_compose.specs.Fronts.{FrontsValue}
use Rattle.screen_compose.specs.Shown.{fronts_of}
use Rattle.screen_compose.specs.declared.placed.Placed.{Placed}

-- what windows show isn't hidden with the parts that are out
windows_hidden : (s : State) (out : List ℕ) → (hide out s).windows ≡ s.windows
windows_hidden s [] = refl
windows_hidden s (u ∷ us) = windows_hidden s us

-- a pick that plays nothing adds no entry
none_picked : (n : ℕ) (k : Pick) (r : Picked) (es : List Entry) → k ≡ Stop → es ++ picked_entries n k r ≡ es
none_picked n k r es stops = ap (λ (j : Pick). es ++ picked_entries n j r) stops ∙ append-nil es

pub shown_in_turn : (s : State) (n : ℕ) (d : Machine) (k : Pick) (r : Picked) (es seen : List Entry) (placed : List Placed) (shown : Option FrontsValue)
    → d.state ≡ hide (outs d.away) (replay_from s es) → k ≡ Stop → shown ≡ Some (fronts_of d.state.windows placed (length es)) → seen ≡ es ++ picked_entries n k r
    → shown ≡ Some (fronts_of (replay_from s seen).windows placed (length seen))
shown_in_turn s n d k r es seen placed shown stands stops is went =
    let windows : d.state.windows ≡ (replay_from s es).windows = ap (λ (v : State). v.windows) stands ∙ windows_hidden (replay_from s es) (outs d.away) in
    let all : seen ≡ es = went ∙ none_picked n k r es stops in
    is
    ∙ ap (λ (ws : List WindowValue). Some (fronts_of ws placed (length es))) windows
    ∙ ap (λ (xs : List Entry). Some (fronts_of (replay_from s xs).windows placed (length xs))) (sym all)
