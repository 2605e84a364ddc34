-- What the program's edge answers, by what `top` does.
use Rattle.std.proofs.Common.{◌≡◌, ℕ, List, Option, subst, inl, inr, Result, Ok, Err}
use Rattle.std.specs.Prelude.{◌⊎◌, IfOk, IfErr}
use Rattle.egl_flow.specs.Flow.{HasRisen}
use Rattle.egl_flow.specs.declared.statuses.Status.{Status}
use Rattle.egl_flow.specs.declared.statuses.Status.TheVariants as status
use Rattle.egl_cli.specs.Commands.{command_of}
use Rattle.egl_cli.specs.Process.{IsStatusOf, KeepsPromises}
use Rattle.egl_cli.specs.Says.{Says, WantsMemory, IsUnread, IsHeadline, IsStalledHeadline, IsWhole}

module _ (left rest : Option (List ℕ)) (read_before read_now : ℕ) (before after : Option (List ℕ)) (write_before write_now : ℕ) (s : Status) where
  pub kept : (given words : List (List ℕ)) → given ≡ words → Says (command_of given) left rest (HasRisen read_before read_now) before after (HasRisen write_before write_now) s
      → (s ≡ status.NoMemory → WantsMemory (command_of given) left rest read_before read_now) → IsUnread (command_of given) left rest read_before read_now
      → (s ≡ status.Ok → IsHeadline (command_of given) left rest before after) → (s ≡ status.Stalled → IsStalledHeadline (command_of given) left rest before after)
      → IsWhole (command_of given) left (HasRisen read_before read_now) (HasRisen write_before write_now) s
      → KeepsPromises words left rest read_before read_now before after write_before write_now s
  kept given words same says memory unread headline stalled whole =
      let P : List (List ℕ) → Type 0 = λ ws. KeepsPromises ws left rest read_before read_now before after write_before write_now s in
      subst P same (record { says = says; memory = memory; unread = unread; headline = headline; stalled = stalled; whole = whole })

  -- by whether there was memory for the words
  pub ran : (T E A B : Type 0) (r : Result T E) (items : T → List (List ℕ)) (W : List (List ℕ) → Type 0) (M : Type 0) → IfOk r (λ ws. W (items ws)) → IfErr r (λ _. M)
      → IfOk r (λ ws. KeepsPromises (items ws) left rest read_before read_now before after write_before write_now s) → IfErr r (λ _. (s ≡ status.NoMemory) × A × B)
      → ((words : List (List ℕ)) × W words × IsStatusOf words s) ⊎ ((s ≡ status.NoMemory) × M)
  ran T E A B (Ok ws) items W M w m kept none = inl (
    items ws,
    w,
    record {
      left = left;
      rest = rest;
      read_before = read_before;
      read_now = read_now;
      before = before;
      after = after;
      write_before = write_before;
      write_now = write_now;
      keeps = kept;
    },
  )
  ran T E A B (Err e) items W M w m kept none = inr (none.0, m)
