-- The threads of a journal.
use Rattle.std.proofs.Common.{◌≡◌, ◌<◌, List, arith}
use Rattle.std.proofs.lemmas.List.Elements.{All-same, All-weaker}
use Rattle.std.specs.Prelude.{All}
use Rattle.egl_calls.specs.declared.entries.Entry.{Entry}
use Rattle.trace_reader.specs.Header.{most_threads}
use Rattle.trace_reader.specs.Traces.{TraceValue}
use Rattle.trace_reader.specs.Order.{IsTrace}

-- no trace has more than sixteen threads
pub few_of : (t : TraceValue) (es xs : List Entry) → IsTrace t → xs ≡ es → All (λ e. e.thread < t.threads) es → All (λ e. e.thread < most_threads) xs
few_of t es xs traced same below =
    let few = traced.threads in
    All-same (λ (e : Entry). e.thread < most_threads) xs es same (All-weaker (λ (e : Entry). e.thread < t.threads) (λ (e : Entry). e.thread < most_threads) (λ e h. omega (arith, h, few)) es below)
