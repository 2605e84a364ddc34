-- What the program's edge answers.
use Rattle.std.specs.Prelude.{◌≡◌, ℕ, List, Option}
use Rattle.egl_flow.specs.Flow.{HasRisen}
use Rattle.egl_flow.specs.declared.statuses.Status.{Status}
use Rattle.egl_flow.specs.declared.statuses.Status.TheVariants.{Ok, Stalled, NoMemory}
use Rattle.egl_cli.specs.Commands.{command_of}
use Rattle.egl_cli.specs.Says.{Says, WantsMemory, IsUnread, IsHeadline, IsStalledHeadline, IsWhole}

-- all that is promised of the command that words name: by what the source had left and has left now, its count of faults before and now, what the sink had taken and has taken now, and its count of faults
pub record KeepsPromises (words : List (List ℕ)) (left rest : Option (List ℕ)) (read_before read_now : ℕ) (before after : Option (List ℕ)) (write_before write_now : ℕ) (status : Status) : Type 0 where
  pub says : Says (command_of words) left rest (HasRisen read_before read_now) before after (HasRisen write_before write_now) status
  pub memory : status ≡ NoMemory → WantsMemory (command_of words) left rest read_before read_now
  pub unread : IsUnread (command_of words) left rest read_before read_now
  pub headline : status ≡ Ok → IsHeadline (command_of words) left rest before after
  pub stalled : status ≡ Stalled → IsStalledHeadline (command_of words) left rest before after
  pub whole : IsWhole (command_of words) left (HasRisen read_before read_now) (HasRisen write_before write_now) status

-- the same of a source and a sink of which nothing else is known
pub record IsStatusOf (words : List (List ℕ)) (status : Status) : Type 0 where
  pub left : Option (List ℕ)
  pub rest : Option (List ℕ)
  pub read_before : ℕ
  pub read_now : ℕ
  pub before : Option (List ℕ)
  pub after : Option (List ℕ)
  pub write_before : ℕ
  pub write_now : ℕ
  pub keeps : KeepsPromises words left rest read_before read_now before after write_before write_now status
