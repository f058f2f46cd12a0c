use Rattle.std.proofs.Common.{ℕ}
use Rattle.toml.specs.View.{table_view}
use Rattle.ilp_fields.specs.declared.fault.Field.TheVariants as field
use Rattle.ilp_fields.specs.Fields.{elements_of}
use Rattle.ilp_warnings.specs.declared.warning.ConfigTable.TheVariants.{Price}
use Rattle.ilp_warnings.specs.Complete.{IsTableTold}
use Rattle.ilp_warnings.proofs.KeysTold.{reached, table_kept}
use Rattle.ilp_warnings.proofs.Keeping.{one_more}
use Rattle.ilp_warnings.proofs.telling.tell_prices.Goals as goal

-- the loop has come to each table that is there
pub returns-clause-fields : goal.returns-clause-fields
returns-clause-fields c = λ n few key unknown.
    let array = elements_of field.Price (table_view c.args.examined.table.now) in
    c.loop-price.invariant.2 n (reached array c.tables_in-values.result.now n c.count_of-price-end.result c.loop-price.price unknown.members c.tables_in-values.ensures unknown.there few c.count_of-price-end.ensures.all c.loop-price-test.false) key unknown

-- each turn keeps what was told, and tells of one more table
pub loop-price-preserved : goal.loop-price-preserved
loop-price-preserved c =
    let t = table_view c.args.examined.table.now in
    let turn = c.loop-price in
    let table = c.in_ok-tell_table.ensures in (
      table.sound,
      (λ w has. table.kept w (turn.invariant.1 w has)),
      one_more (λ (n : ℕ). IsTableTold t (Price n) turn.told.items) (λ (n : ℕ). IsTableTold t (Price n) c.tell_table.new.told.items) turn.price (λ n told. table_kept t (Price n) _ _ table.kept told) turn.invariant.2 table.fields,
    )
