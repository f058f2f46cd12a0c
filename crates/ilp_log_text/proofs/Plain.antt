-- Which octets the lines of a run and of peers have, by a valid configuration.
use Rattle.std.proofs.Common.{◌≡◌, ◌≢◌, ℕ, ◌+◌, ◌%◌, ◌^◌, ◌<◌, ◌≤◌, Bool, true, false, List, [], ◌∷◌, ◌++◌, length, refl, sym, ◌∙◌, ap, subst, arith, All, codes}
use Rattle.std.specs.Prelude.{◌==◌, ◌&&◌, not, nat_le}
use Rattle.std.specs.List.{list_all}
use Rattle.std.specs.Fmt.{decimal}
use Rattle.std.proofs.lemmas.Fmt.{decimal_by_steps}
use Rattle.std.proofs.lemmas.Bool.{and_parts, false≢true}
use Rattle.std.proofs.lemmas.Bool.Decides.{nat_tests}
use Rattle.std.proofs.lemmas.List.Elements.{All-nil, All-cons, All-push, All-append, All-weaker, All-get_or, All-head, All-tail}
use Rattle.std.proofs.lemmas.List.Sums.{AllPass-from_list_all}
use Rattle.std.proofs.lemmas.Option.{unwrap_or-slice_get}
use Rattle.ilp_assets.specs.Assets.{PlainAsset, no_asset}
use Rattle.ilp_fields.specs.declared.form.Form.TheVariants as form
use Rattle.ilp_fields.specs.Forms.{is_name_octet, is_run_octet, is_code_octet}
use Rattle.ilp_accounts.specs.Configuration.{Configuration, PlainPeer}
use Rattle.ilp_accounts.specs.Valid.{IsValid, HasForm, IsAsset, IsPeer}
use Rattle.ilp_line_file.specs.Text.{IsLine}
use Rattle.ilp_remembered.specs.Remembered.{asset_of, run_line, peer_line}
use Rattle.ilp_log_text.specs.Remembering.{is_semicolon}

-- a space or what is above it, and no semicolon
abbrev pub IsPlain : ℕ → Type 0
IsPlain octet = (32 ≤ octet) × (octet ≢ 59)

abbrev pub is_plain : ℕ → Bool
is_plain octet = nat_le 32 octet && not (octet == 59)

-- a word that is written out
pub word_plain : (word : List ℕ) → list_all is_plain word ≡ true → All IsPlain word
word_plain word plain = All-weaker (λ octet. is_plain octet ≡ true) IsPlain each word (AllPass-from_list_all is_plain word plain)
  where
    each : (octet : ℕ) → is_plain octet ≡ true → IsPlain octet
    each octet is = (grind (arith, nat_tests, is), λ semi. false≢true (ap is_plain (sym semi) ∙ is))

-- such octets are in one line, and in one part of it
pub plain_line : (octets : List ℕ) → All IsPlain octets → IsLine octets
plain_line [] plain = tt
plain_line (b ∷ octets) plain =
    let head : IsPlain b = All-head IsPlain b octets plain in
    (λ e. omega (arith, head.0, e), λ e. omega (arith, head.0, e), plain_line octets (All-tail IsPlain b octets plain))

pub plain_part : (octets : List ℕ) → All IsPlain octets → All (λ octet. is_semicolon octet ≡ false) octets
plain_part octets plain = All-weaker IsPlain (λ octet. is_semicolon octet ≡ false) each octets plain
  where
    each : (octet : ℕ) → IsPlain octet → is_semicolon octet ≡ false
    each octet is = grind (arith, nat_tests, is.1)

decimal_plain : (n : ℕ) → n < 2 ^ 64 → All IsPlain (decimal n)
decimal_plain n fits = decimal_by_steps (λ _ (digits : List ℕ). All IsPlain digits) one more n fits
  where
    one : (k : ℕ) → k < 10 → All IsPlain ((48 + k) ∷ [])
    one k digit = All-cons IsPlain (48 + k) [] (omega arith, λ e. omega (arith, e)) (All-nil IsPlain)

    more : (k : ℕ) (digits : List ℕ) → 10 ≤ k → All IsPlain digits → All IsPlain (digits ++ ((48 + k % 10) ∷ []))
    more k digits many plain =
        let below : k % 10 < 10 = omega arith in
        All-push IsPlain digits (48 + k % 10) plain (omega arith, λ e. omega (arith, below, e))

-- the octets of a form
name_plain : (name : List ℕ) → HasForm form.Name name → All IsPlain name
name_plain name formed = All-weaker (λ octet. is_name_octet octet ≡ true) IsPlain each name (AllPass-from_list_all is_name_octet name (and_parts _ (list_all is_name_octet name) formed).1)
  where
    each : (octet : ℕ) → is_name_octet octet ≡ true → IsPlain octet
    each octet is = (grind (arith, nat_tests, is), λ semi. false≢true (ap is_name_octet (sym semi) ∙ is))

run_plain : (run : List ℕ) → HasForm form.Run run → All IsPlain run
run_plain run formed = All-weaker (λ octet. is_run_octet octet ≡ true) IsPlain each run (AllPass-from_list_all is_run_octet run (and_parts _ (list_all is_run_octet run) formed).1)
  where
    each : (octet : ℕ) → is_run_octet octet ≡ true → IsPlain octet
    each octet is = (grind (arith, nat_tests, is), λ semi. false≢true (ap is_run_octet (sym semi) ∙ is))

code_plain : (code : List ℕ) → HasForm form.Code code → All IsPlain code
code_plain code formed = All-weaker (λ octet. is_code_octet octet ≡ true) IsPlain each code (AllPass-from_list_all is_code_octet code (and_parts _ (list_all is_code_octet code) formed).1)
  where
    each : (octet : ℕ) → is_code_octet octet ≡ true → IsPlain octet
    each octet is = (grind (arith, nat_tests, is), λ semi. false≢true (ap is_code_octet (sym semi) ∙ is))

module _ (C : Configuration) (valid : IsValid C) where
  pub plain_run : All IsPlain (run_line C.settings.run)
  plain_run = All-append IsPlain (codes "run ") C.settings.run (word_plain (codes "run ") refl) (run_plain C.settings.run valid.settings.run)

  asset_stands : (p : PlainPeer) → IsPeer (length C.table.assets) p → IsAsset (asset_of C p)
  asset_stands p given = subst IsAsset (sym (unwrap_or-slice_get C.table.assets p.asset no_asset)) (All-get_or IsAsset C.table.assets p.asset no_asset given.asset valid.assets)

  pub plain_peer : (p : PlainPeer) → IsPeer (length C.table.assets) p → All IsPlain (peer_line p.name (asset_of C p))
  plain_peer p given =
      let asset : PlainAsset = asset_of C p in
      let stands : IsAsset asset = asset_stands p given in
      let space : All IsPlain (codes " ") = word_plain (codes " ") refl in
      let scale : All IsPlain (decimal asset.scale) = decimal_plain asset.scale (omega (arith, stands.scale)) in
      let coded : All IsPlain (asset.code ++ (codes " " ++ decimal asset.scale)) =
      All-append IsPlain asset.code (codes " " ++ decimal asset.scale) (code_plain asset.code stands.code) (All-append IsPlain (codes " ") (decimal asset.scale) space scale) in
      All-append IsPlain (codes "peer ") (p.name ++ (codes " " ++ (asset.code ++ (codes " " ++ decimal asset.scale)))) (word_plain (codes "peer ") refl)
      (All-append IsPlain p.name (codes " " ++ (asset.code ++ (codes " " ++ decimal asset.scale))) (name_plain p.name given.name)
      (All-append IsPlain (codes " ") (asset.code ++ (codes " " ++ decimal asset.scale)) space coded))
