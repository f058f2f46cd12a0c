use Rattle.std.proofs.Common.{◌≡◌, ◌++◌, cond, List, ℕ, sym, ap, ◌∙◌, append_assoc}
use Rattle.std.specs.Prelude.{codes}
use Rattle.std.specs.Fmt.{decimal}
use Rattle.std.proofs.lemmas.Bool.{eq-eqb, ne_eqb}
use Rattle.std.proofs.lemmas.Result.{IfOk-weaker}
use Rattle.ilp_rules.specs.Heads.{settlement_key_of}
use Rattle.ilp_follows.proofs.handing_on.key_text.Goals as goal

pub returns-then-period-eq0 : goal.returns-then-period-eq0
returns-then-period-eq0 c =
    let run = c.args.config.now.settings.run in
    let number = c.args.number in
    let key : settlement_key_of c.args.config.now c.args.period number ≡ run ++ (codes "-" ++ decimal number)
    = ap (λ b. (run ++ cond b (codes "-") (codes "." ++ (decimal c.args.period ++ codes "-"))) ++ decimal number) (eq-eqb c.args.period 0 c.if-period-eq0.true)
    ∙ append_assoc run (codes "-") (decimal number) in
    IfOk-weaker c.first_key.result _ _ (λ text is. is ∙ ap (λ (r : List ℕ). r ++ (codes "-" ++ decimal number)) c.run.ensures ∙ sym key) c.first_key.ensures

pub returns-else-period-eq0 : goal.returns-else-period-eq0
returns-else-period-eq0 c =
    let run = c.args.config.now.settings.run in
    let number = c.args.number in
    let period = c.args.period in
    let key : settlement_key_of c.args.config.now period number ≡ run ++ (codes "." ++ (decimal period ++ (codes "-" ++ decimal number)))
    = ap (λ b. (run ++ cond b (codes "-") (codes "." ++ (decimal period ++ codes "-"))) ++ decimal number) (ne_eqb period 0 c.if-period-eq0.false)
    ∙ append_assoc run (codes "." ++ (decimal period ++ codes "-")) (decimal number)
    ∙ ap (λ (r : List ℕ). run ++ r) (append_assoc (codes ".") (decimal period ++ codes "-") (decimal number))
    ∙ ap (λ (r : List ℕ). run ++ (codes "." ++ r)) (append_assoc (decimal period) (codes "-") (decimal number)) in
    IfOk-weaker c.later_key.result _ _ (λ text is. is ∙ ap (λ (r : List ℕ). r ++ (codes "." ++ (decimal period ++ (codes "-" ++ decimal number)))) c.run-else-period-eq0.ensures ∙ sym key) c.later_key.ensures
