use Rattle.std.proofs.Common.{refl, arith, rules}
use Rattle.std.proofs.lemmas.Grind.{common_steps}
use Rattle.display_table.proofs.PlaceLaws.{rise-more}
use Rattle.display_table.proofs.TableLaws.{made-first}
use Rattle.display_table.proofs.making.add_first.Goals as goal

pub returns-clause-made : goal.returns-clause-made
returns-clause-made c = made-first _ _ _ _ _ _ refl c.requires.tables.tables c.in_ok-add.ensures.added

pub returns-in_err-add-clause-tables : goal.returns-in_err-add-clause-tables
returns-in_err-add-clause-tables c = record {
  tables = first_of (search rules, grind (arith, common_steps, c.in_err-add.ensures.same));
  first_rises = c.in_err-add.ensures.same_rise;
  second_rises = c.requires.tables.second_rises;
}

pub returns-clause-tables : goal.returns-clause-tables
returns-clause-tables c = record {
  tables = first_of (search rules, grind (arith, common_steps, c.in_ok-add.ensures.added));
  first_rises = c.in_ok-add.ensures.rise;
  second_rises = rise-more 3 _ c.args.next.now _ (omega arith) c.requires.tables.second_rises;
}
