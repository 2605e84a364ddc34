use Rattle.std.proofs.Common.{◌≡◌, ap, ◌∙◌, ℕ, List, pos, w64}
use Rattle.std.specs.Option.{option_map}
use Rattle.std.proofs.lemmas.Int.{to_z-of_z}
use Rattle.egl_calls.specs.Ranges.{unsigned}
use Rattle.config_match.specs.declared.table.Config.{Config}
use Rattle.config_match.specs.Table.{attribute, attribute_in, configs}
use Rattle.config_match.proofs.choose.Configs.attribute.Goals as goal

pub returns-clause-value : goal.returns-clause-value
unfolding attribute
returns-clause-value c =
    let id : c.unsigned.result ≡ unsigned c.args.id = c.unsigned.ensures ∙ ap unsigned (to_z-of_z w64 c.args.id c.ranges.id) in
    let name : c.unsigned-2.result ≡ unsigned c.args.name = c.unsigned-2.ensures ∙ ap unsigned (to_z-of_z w64 c.args.name c.ranges.name) in
    c.signed.ensures.value
    ∙ ap (option_map pos)
    (c.attribute_in.ensures
    ∙ ap (λ (rows : List Config). attribute_in rows c.unsigned.result c.unsigned-2.result) c.self.invariant
    ∙ ap (λ (i : ℕ). attribute_in configs i c.unsigned-2.result) id
    ∙ ap (attribute_in configs (unsigned c.args.id)) name)
