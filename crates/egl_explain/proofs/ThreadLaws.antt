-- The entries of a run by turns are of the trace's threads.
use Rattle.std.proofs.Common.{◌≡◌, ◌<◌, List, [], ◌∷◌, ◌++◌, sym, subst}
use Rattle.std.specs.Prelude.{All}
use Rattle.std.proofs.lemmas.List.Elements.{All-nil, All-cons}
use Rattle.trace_reader.specs.Traces.{TraceValue}
use Rattle.trace_reader.specs.Order.{IsTrace}
use Rattle.egl_calls.specs.declared.entries.Entry.{Entry}
use Rattle.trace_model.specs.Follows.{FollowsFrom}
use Rattle.trace_model.specs.Serial.{serial}
use Rattle.trace_model.proofs.FollowsLaws.{serial_plays}

all_below : (t : TraceValue) (journal es : List Entry) → FollowsFrom t journal es → All (λ e. e.thread < t.threads) es
all_below t journal [] f = All-nil (λ (e : Entry). e.thread < t.threads)
all_below t journal (e ∷ es) f = All-cons (λ (x : Entry). x.thread < t.threads) e es f.0 (all_below t (journal ++ e ∷ []) es f.2)

pub threads_below : (t : TraceValue) (entries : List Entry) → IsTrace t → entries ≡ serial t → All (λ e. e.thread < t.threads) entries
threads_below t entries is e = subst (λ (es : List Entry). All (λ x. x.thread < t.threads) es) (sym e) (all_below t [] (serial t) (serial_plays t is).follows)
