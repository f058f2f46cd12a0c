use Rattle.std.proofs.Common.{◌≡◌, ◌∷◌, [], ◌++◌, List, ℕ, length, take, drop, ap, ◌∙◌}
use Rattle.std.specs.Int.{w128}
use Rattle.std.proofs.lemmas.Int.{to_z-of_z}
use Rattle.std.specs.Fmt.{signed_decimal}
use Rattle.ilp_report.specs.Report.{left, right, line}
use Rattle.ilp_report.proofs.LineLemmas.{columns_fit, columns_stand, name_width, number_width, length-left, length-right}
use Rattle.ilp_report.proofs.line.line_of.Goals as goal

pub slice_bounds-line-end-3 : goal.slice_bounds-line-end-3
slice_bounds-line-end-3 c =
    let s = c.line_feeds-line.result in
    let feeds = c.line_feeds-line.ensures in
    let label = c.args.label.now in
    let name = c.args.name.now in
    let wide : length s ≡ 61 = ap length feeds in
    let first : c.put_left.new.column ≡ left 10 label = c.put_left.ensures ∙ ap (λ xs. left (length (take 10 xs)) label) feeds in
    let wide_a = ap length first ∙ length-left 10 label c.requires.label in
    let second : c.put_left-2.new.column ≡ left 20 name = c.put_left-2.ensures ∙ ap (λ n. left n name) (name_width c.put_left.new.column s wide_a wide) in
    let wide_b = ap length second ∙ length-left 20 name c.requires.name in
    columns_fit c.put_left.new.column c.put_left-2.new.column s wide_a wide_b wide

pub returns : goal.returns
unfolding line
returns c =
    let s = c.line_feeds-line.result in
    let feeds = c.line_feeds-line.ensures in
    let label = c.args.label.now in
    let name = c.args.name.now in
    let digits = c.format.result.now in
    let number = signed_decimal c.args.number in
    let wide : length s ≡ 61 = ap length feeds in
    let first : c.put_left.new.column ≡ left 10 label = c.put_left.ensures ∙ ap (λ xs. left (length (take 10 xs)) label) feeds in
    let wide_a = ap length first ∙ length-left 10 label c.requires.label in
    let second : c.put_left-2.new.column ≡ left 20 name = c.put_left-2.ensures ∙ ap (λ n. left n name) (name_width c.put_left.new.column s wide_a wide) in
    let wide_b = ap length second ∙ length-left 20 name c.requires.name in
    let text : digits ≡ number = c.format.ensures.text ∙ ap signed_decimal (to_z-of_z w128 c.args.number c.ranges.number) in
    let third : c.put_right.new.column ≡ right 30 number = c.put_right.ensures ∙ ap (λ n. right n digits) (number_width c.put_left.new.column c.put_left-2.new.column s wide_a wide_b wide) ∙ ap (right 30) text in
    let wide_c = ap length third ∙ length-right 30 number c.requires.number in
    let feed : drop 60 s ≡ 10 ∷ [] = ap (drop 60) feeds in
    columns_stand c.put_left.new.column c.put_left-2.new.column c.put_right.new.column s wide_a wide_b wide_c wide
    ∙ ap (λ (xs : List ℕ). xs ++ (c.put_left-2.new.column ++ (c.put_right.new.column ++ drop 60 s))) first
    ∙ ap (λ (xs : List ℕ). left 10 label ++ (xs ++ (c.put_right.new.column ++ drop 60 s))) second
    ∙ ap (λ (xs : List ℕ). left 10 label ++ (left 20 name ++ (xs ++ drop 60 s))) third
    ∙ ap (λ (xs : List ℕ). left 10 label ++ (left 20 name ++ (right 30 number ++ xs))) feed
