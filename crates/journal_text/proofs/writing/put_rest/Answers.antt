use Rattle.std.proofs.Common.{◌++◌, ◌∙◌, List, ℕ, ap}
use Rattle.std.specs.Prelude.{codes}
use Rattle.surface_store.specs.Windows.{WindowValue}
use Rattle.trace_model.specs.Recording.{census_line, fronts_text}
use Rattle.journal_text.proofs.TextLaws.{rest_put}
use Rattle.journal_text.proofs.writing.put_rest.Goals as goal

pub returns : goal.returns
returns c =
    let s = c.args.driver.now.state in
    let out = c.args.out.now in
    let census = c.in_ok-put_census.ensures ∙ ap (λ (ns : List ℕ). out ++ census_line ns) c.census.ensures in
    let feed = c.in_ok-put_text.ensures ∙ ap (λ (x : List ℕ). x ++ codes "\n") census in
    let fronts = c.in_ok-put_fronts.ensures ∙ ap (λ (ws : List WindowValue). c.put_text.new.out ++ fronts_text ws) c.windows.ensures ∙ ap (λ (x : List ℕ). x ++ fronts_text s.windows) feed in
    c.in_ok-put_text-2.ensures ∙ ap (λ (x : List ℕ). x ++ codes "end") fronts ∙ rest_put out s
