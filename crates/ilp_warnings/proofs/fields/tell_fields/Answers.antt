use Rattle.std.proofs.Common.{List, ℕ, sym, subst, string_bytes, All, Contains, rules}
use Rattle.std.proofs.lemmas.List.Elements.{All-head, All-rest, All-same}
use Rattle.toml.specs.View.{table_view}
use Rattle.ilp_warnings.specs.Told.{IsNoneOf, keys_of, known_in}
use Rattle.ilp_warnings.specs.Complete.{IsFieldTold}
use Rattle.ilp_warnings.proofs.Keys.{Entry, own_keys}
use Rattle.ilp_warnings.proofs.KeysTold.{AreLeft, all_left, one_less, none_left}
use Rattle.ilp_warnings.proofs.fields.tell_fields.Goals as goal

pub loop-key-init : goal.loop-key-init
loop-key-init c =
    let keys = keys_of (table_view c.args.table.now) in (
      All-same (λ (e : Entry). Contains keys (string_bytes e.0)) c.into_iter-key-iterator.result c.args.table.now.entries (search rules) (own_keys c.args.table.now.entries),
      c.requires.sound,
      search rules,
      subst (λ es. AreLeft c.args.within keys es c.args.told.now.items) (search rules) (all_left c.args.within c.args.table.now.entries c.args.told.now.items),
    )

pub loop-key-preserved : goal.loop-key-preserved
loop-key-preserved c =
    let keys = keys_of (table_view c.args.table.now) in
    let e : Entry = (c.in-Some.key.now, c.in-Some.field-0-1.now) in
    let turn = c.loop-key in
    let field = c.in_ok-tell_field.ensures in
    let tells = subst (λ (key : List ℕ). IsNoneOf (known_in c.args.within) key → IsFieldTold c.args.within key c.tell_field.new.told.items) c.as_str.ensures.value field.told in
    let left = subst (λ es. AreLeft c.args.within keys es turn.told.items) c.in-Some.ensures.steps turn.invariant.3 in (
      All-rest (λ (f : Entry). Contains keys (string_bytes f.0)) e c.next.new.self turn.key-iterator c.in-Some.ensures.steps turn.invariant.0,
      field.sound,
      (λ w has. field.kept w (turn.invariant.2 w has)),
      one_less c.args.within keys e c.next.new.self turn.told.items c.tell_field.new.told.items field.kept tells left,
    )

pub tell_field-requires-clause-has : goal.tell_field-requires-clause-has
tell_field-requires-clause-has c =
    let keys = keys_of (table_view c.args.table.now) in
    let e : Entry = (c.in-Some.key.now, c.in-Some.field-0-1.now) in
    let has = λ (f : Entry). Contains keys (string_bytes f.0) in
    let here = subst (λ es. All has es) c.in-Some.ensures.steps c.loop-key.invariant.0 in
    subst (λ (key : List ℕ). Contains keys key) (sym c.as_str.ensures.value) (All-head has e c.next.new.self here)

pub returns-clause-fields : goal.returns-clause-fields
returns-clause-fields c = none_left _ c.args.within (table_view c.args.table.now) c.loop-key.key-iterator c.loop-key.told.items c.requires.there (search (rules, c.in-None.ensures)) c.loop-key.invariant.3
