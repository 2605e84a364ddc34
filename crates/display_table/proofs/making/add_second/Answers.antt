use Rattle.std.proofs.Common.{refl, arith, rules}
use Rattle.std.proofs.lemmas.Grind.{common_steps}
use Rattle.display_table.proofs.PlaceLaws.{rise-more}
use Rattle.display_table.proofs.TableLaws.{made-second}
use Rattle.display_table.proofs.making.add_second.Goals as goal

pub returns-clause-made : goal.returns-clause-made
returns-clause-made c = made-second _ _ _ _ _ _ refl c.requires.tables.tables c.in_ok-add.ensures.added

pub returns-in_err-add-clause-tables : goal.returns-in_err-add-clause-tables
returns-in_err-add-clause-tables c = record {
  tables = first_of (search rules, grind (arith, common_steps, c.in_err-add.ensures.same));
  second_rises = c.in_err-add.ensures.same_rise;
  first_rises = c.requires.tables.first_rises;
}

pub returns-clause-tables : goal.returns-clause-tables
returns-clause-tables c = record {
  tables = first_of (search rules, grind (arith, common_steps, c.in_ok-add.ensures.added));
  second_rises = c.in_ok-add.ensures.rise;
  first_rises = rise-more 3 _ c.args.next.now _ (omega arith) c.requires.tables.first_rises;
}
