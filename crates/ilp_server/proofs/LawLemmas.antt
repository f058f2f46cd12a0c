-- A path asks for one thing, and a request is from one peer.
use Rattle.std.proofs.Common.{◌≡◌, ℕ, List, [], ◌∷◌, ◌++◌, get_or, sym, ap, ◌∙◌, refl, subst, arith, codes, append_assoc}
use Rattle.std.proofs.lemmas.List.{append_cancel_left, same_from_push}
use Rattle.ilp_accounts.specs.Configuration.{Configuration, peer_at}
use Rattle.ilp_accounts.specs.Valid.{IsValid}
use Rattle.ilp_server.specs.declared.target.Side.{Side}
use Rattle.ilp_server.specs.declared.target.Side.TheVariants.{Ilp, Engine}
use Rattle.ilp_server.specs.declared.target.Target.{Target}
use Rattle.ilp_server.specs.declared.target.Target.TheVariants.{Packet, Settlement, Correction, Message, Report, Close, Reload, Pause, Resume}
use Rattle.ilp_settlement.specs.Targets.{account_target}
use Rattle.ilp_server.specs.Targets.{IsOfPeer, AsksFor}
use Rattle.ilp_server.specs.Fields.{ShowsToken, IsFrom}
use Rattle.ilp_server.proofs.PeerLemmas.{one_peer}
use Rattle.ilp_server.proofs.TargetLemmas.{name_is}
use Rattle.ilp_server.proofs.TokenLemmas.{token_is, only_is}

-- targets of accounts differ where their calls end in different octets
ends_differ : (path first second name other : List ℕ) (x y : ℕ) → (x ≡ y → ⊥)
    → path ≡ account_target (first ++ x ∷ []) name → path ≡ account_target (second ++ y ∷ []) other → ⊥
ends_differ path first second name other x y unequal is also =
    let same = append_cancel_left (codes "/accounts/") (name ++ (first ++ x ∷ [])) (other ++ (second ++ y ∷ [])) (sym is ∙ also) in
    let ends : (name ++ first) ++ x ∷ [] ≡ (other ++ second) ++ y ∷ [] =
    append_assoc name first (x ∷ []) ∙ same ∙ sym (append_assoc other second (y ∷ [])) in
    unequal (same_from_push (name ++ first) (other ++ second) x y ends).1

-- and where these are the same, and those before them differ
nexts_differ : (path first second name other : List ℕ) (x y z : ℕ) → (x ≡ y → ⊥)
    → path ≡ account_target ((first ++ x ∷ []) ++ z ∷ []) name → path ≡ account_target ((second ++ y ∷ []) ++ z ∷ []) other → ⊥
nexts_differ path first second name other x y z unequal is also =
    let same = append_cancel_left (codes "/accounts/") (name ++ ((first ++ x ∷ []) ++ z ∷ [])) (other ++ ((second ++ y ∷ []) ++ z ∷ [])) (sym is ∙ also) in
    let ends : (name ++ (first ++ x ∷ [])) ++ z ∷ [] ≡ (other ++ (second ++ y ∷ [])) ++ z ∷ [] =
    append_assoc name (first ++ x ∷ []) (z ∷ []) ∙ same ∙ sym (append_assoc other (second ++ y ∷ []) (z ∷ [])) in
    let fronts = (same_from_push (name ++ (first ++ x ∷ [])) (other ++ (second ++ y ∷ [])) z z ends).0 in
    let before : (name ++ first) ++ x ∷ [] ≡ (other ++ second) ++ y ∷ [] =
    append_assoc name first (x ∷ []) ∙ fronts ∙ sym (append_assoc other second (y ∷ [])) in
    unequal (same_from_push (name ++ first) (other ++ second) x y before).1

-- no target of settlements is one of messages
no_message : (path name other : List ℕ) → path ≡ account_target (codes "/settlements") name → path ≡ account_target (codes "/messages") other → ⊥
no_message path name other is also =
    nexts_differ path (codes "/settlemen") (codes "/messag") name other 116 101 115 (λ e. absurd (omega (arith, e))) is also

-- nor one of corrections
no_settlement_corrects : (path name other : List ℕ) → path ≡ account_target (codes "/settlements") name → path ≡ account_target (codes "/corrections") other → ⊥
no_settlement_corrects path name other is also =
    nexts_differ path (codes "/settlemen") (codes "/correctio") name other 116 110 115 (λ e. absurd (omega (arith, e))) is also

-- no target of messages is one of corrections
no_message_corrects : (path name other : List ℕ) → path ≡ account_target (codes "/messages") name → path ≡ account_target (codes "/corrections") other → ⊥
no_message_corrects path name other is also =
    nexts_differ path (codes "/messag") (codes "/correctio") name other 101 110 115 (λ e. absurd (omega (arith, e))) is also

-- no target of corrections pauses payouts
no_correction_pauses : (path name other : List ℕ) → path ≡ account_target (codes "/corrections") name → path ≡ account_target (codes "/pause") other → ⊥
no_correction_pauses path name other is also =
    ends_differ path (codes "/correction") (codes "/paus") name other 115 101 (λ e. absurd (omega (arith, e))) is also

-- or has them go on
no_correction_resumes : (path name other : List ℕ) → path ≡ account_target (codes "/corrections") name → path ≡ account_target (codes "/resume") other → ⊥
no_correction_resumes path name other is also =
    ends_differ path (codes "/correction") (codes "/resum") name other 115 101 (λ e. absurd (omega (arith, e))) is also

-- no target of settlements pauses payouts
no_settlement_pauses : (path name other : List ℕ) → path ≡ account_target (codes "/settlements") name → path ≡ account_target (codes "/pause") other → ⊥
no_settlement_pauses path name other is also =
    ends_differ path (codes "/settlement") (codes "/paus") name other 115 101 (λ e. absurd (omega (arith, e))) is also

-- or has them go on
no_settlement_resumes : (path name other : List ℕ) → path ≡ account_target (codes "/settlements") name → path ≡ account_target (codes "/resume") other → ⊥
no_settlement_resumes path name other is also =
    ends_differ path (codes "/settlement") (codes "/resum") name other 115 101 (λ e. absurd (omega (arith, e))) is also

-- no target of messages pauses payouts
no_message_pauses : (path name other : List ℕ) → path ≡ account_target (codes "/messages") name → path ≡ account_target (codes "/pause") other → ⊥
no_message_pauses path name other is also =
    ends_differ path (codes "/message") (codes "/paus") name other 115 101 (λ e. absurd (omega (arith, e))) is also

-- or has them go on
no_message_resumes : (path name other : List ℕ) → path ≡ account_target (codes "/messages") name → path ≡ account_target (codes "/resume") other → ⊥
no_message_resumes path name other is also =
    ends_differ path (codes "/message") (codes "/resum") name other 115 101 (λ e. absurd (omega (arith, e))) is also

-- what pauses payouts does not have them go on
no_pause_resumes : (path name other : List ℕ) → path ≡ account_target (codes "/pause") name → path ≡ account_target (codes "/resume") other → ⊥
no_pause_resumes path name other is also =
    nexts_differ path (codes "/pau") (codes "/resu") name other 115 109 101 (λ e. absurd (omega (arith, e))) is also

-- no target of an account closes the connector
no_close : (path call name : List ℕ) → path ≡ account_target call name → path ≡ codes "/close" → ⊥
no_close path call name is also =
    let c_is_a : 99 ≡ 97 = ap (λ l. get_or l 1 0) (sym also ∙ is) in
    absurd (omega (arith, c_is_a))

-- or asks for the report
no_report : (path call name : List ℕ) → path ≡ account_target call name → path ≡ codes "/report" → ⊥
no_report path call name is also =
    let r_is_a : 114 ≡ 97 = ap (λ l. get_or l 1 0) (sym also ∙ is) in
    absurd (omega (arith, r_is_a))

-- who asks for the report does not close the connector
no_report_closes : (path : List ℕ) → path ≡ codes "/report" → path ≡ codes "/close" → ⊥
no_report_closes path is also =
    let r_is_c : 114 ≡ 99 = ap (λ l. get_or l 1 0) (sym is ∙ also) in
    absurd (omega (arith, r_is_c))

-- or has the configuration read again
no_reload : (path call name : List ℕ) → path ≡ account_target call name → path ≡ codes "/reload" → ⊥
no_reload path call name is also =
    let r_is_a : 114 ≡ 97 = ap (λ l. get_or l 1 0) (sym also ∙ is) in
    absurd (omega (arith, r_is_a))

-- who asks for the report does not have the configuration read again
no_report_reloads : (path : List ℕ) → path ≡ codes "/report" → path ≡ codes "/reload" → ⊥
no_report_reloads path is also =
    let p_is_l : 112 ≡ 108 = ap (λ l. get_or l 3 0) (sym is ∙ also) in
    absurd (omega (arith, p_is_l))

-- nor does who closes the connector
no_close_reloads : (path : List ℕ) → path ≡ codes "/close" → path ≡ codes "/reload" → ⊥
no_close_reloads path is also =
    let c_is_r : 99 ≡ 114 = ap (λ l. get_or l 1 0) (sym is ∙ also) in
    absurd (omega (arith, c_is_r))

-- a path is that of one peer
of_one_peer : (C : Configuration) → IsValid C → (call path : List ℕ) (p q : ℕ) → IsOfPeer C (account_target call) path p → IsOfPeer C (account_target call) path q → p ≡ q
of_one_peer C valid call path p q is also =
    one_peer (λ x. x.name) C path valid.names p q is.known also.known
    (name_is call (peer_at C p).name (peer_at C q).name (sym is.named ∙ also.named))

-- a path asks for one thing
pub one_target : (C : Configuration) (side : Side) (path : List ℕ) (target other : Target) → IsValid C → AsksFor C side path target → AsksFor C side path other → target ≡ other
one_target C Ilp path Packet Packet valid is also = refl
one_target C Ilp path Packet (Settlement q) valid is also = absurd also
one_target C Ilp path Packet (Correction q) valid is also = absurd also
one_target C Ilp path Packet (Message q) valid is also = absurd also
one_target C Ilp path Packet Report valid is also = absurd also
one_target C Ilp path Packet Close valid is also = absurd also
one_target C Ilp path Packet Reload valid is also = absurd also
one_target C Ilp path Packet (Pause q) valid is also = absurd also
one_target C Ilp path Packet (Resume q) valid is also = absurd also
one_target C Ilp path (Settlement p) other valid is also = absurd is
one_target C Ilp path (Correction p) other valid is also = absurd is
one_target C Ilp path (Message p) other valid is also = absurd is
one_target C Ilp path Report other valid is also = absurd is
one_target C Ilp path Close other valid is also = absurd is
one_target C Ilp path Reload other valid is also = absurd is
one_target C Ilp path (Pause p) other valid is also = absurd is
one_target C Ilp path (Resume p) other valid is also = absurd is
one_target C Engine path Packet other valid is also = absurd is
one_target C Engine path (Settlement p) Packet valid is also = absurd also
one_target C Engine path (Settlement p) (Settlement q) valid is also = ap Settlement (of_one_peer C valid (codes "/settlements") path p q is also)
one_target C Engine path (Settlement p) (Correction q) valid is also = absurd (no_settlement_corrects path (peer_at C p).name (peer_at C q).name is.named also.named)
one_target C Engine path (Settlement p) (Message q) valid is also = absurd (no_message path (peer_at C p).name (peer_at C q).name is.named also.named)
one_target C Engine path (Settlement p) Report valid is also = absurd (no_report path (codes "/settlements") (peer_at C p).name is.named also)
one_target C Engine path (Settlement p) Close valid is also = absurd (no_close path (codes "/settlements") (peer_at C p).name is.named also)
one_target C Engine path (Settlement p) Reload valid is also = absurd (no_reload path (codes "/settlements") (peer_at C p).name is.named also)
one_target C Engine path (Settlement p) (Pause q) valid is also = absurd (no_settlement_pauses path (peer_at C p).name (peer_at C q).name is.named also.named)
one_target C Engine path (Settlement p) (Resume q) valid is also = absurd (no_settlement_resumes path (peer_at C p).name (peer_at C q).name is.named also.named)
one_target C Engine path (Correction p) Packet valid is also = absurd also
one_target C Engine path (Correction p) (Settlement q) valid is also = absurd (no_settlement_corrects path (peer_at C q).name (peer_at C p).name also.named is.named)
one_target C Engine path (Correction p) (Correction q) valid is also = ap Correction (of_one_peer C valid (codes "/corrections") path p q is also)
one_target C Engine path (Correction p) (Message q) valid is also = absurd (no_message_corrects path (peer_at C q).name (peer_at C p).name also.named is.named)
one_target C Engine path (Correction p) Report valid is also = absurd (no_report path (codes "/corrections") (peer_at C p).name is.named also)
one_target C Engine path (Correction p) Close valid is also = absurd (no_close path (codes "/corrections") (peer_at C p).name is.named also)
one_target C Engine path (Correction p) Reload valid is also = absurd (no_reload path (codes "/corrections") (peer_at C p).name is.named also)
one_target C Engine path (Correction p) (Pause q) valid is also = absurd (no_correction_pauses path (peer_at C p).name (peer_at C q).name is.named also.named)
one_target C Engine path (Correction p) (Resume q) valid is also = absurd (no_correction_resumes path (peer_at C p).name (peer_at C q).name is.named also.named)
one_target C Engine path (Message p) Packet valid is also = absurd also
one_target C Engine path (Message p) (Settlement q) valid is also = absurd (no_message path (peer_at C q).name (peer_at C p).name also.named is.named)
one_target C Engine path (Message p) (Correction q) valid is also = absurd (no_message_corrects path (peer_at C p).name (peer_at C q).name is.named also.named)
one_target C Engine path (Message p) (Message q) valid is also = ap Message (of_one_peer C valid (codes "/messages") path p q is also)
one_target C Engine path (Message p) Report valid is also = absurd (no_report path (codes "/messages") (peer_at C p).name is.named also)
one_target C Engine path (Message p) Close valid is also = absurd (no_close path (codes "/messages") (peer_at C p).name is.named also)
one_target C Engine path (Message p) Reload valid is also = absurd (no_reload path (codes "/messages") (peer_at C p).name is.named also)
one_target C Engine path (Message p) (Pause q) valid is also = absurd (no_message_pauses path (peer_at C p).name (peer_at C q).name is.named also.named)
one_target C Engine path (Message p) (Resume q) valid is also = absurd (no_message_resumes path (peer_at C p).name (peer_at C q).name is.named also.named)
one_target C Engine path Report Packet valid is also = absurd also
one_target C Engine path Report (Settlement q) valid is also = absurd (no_report path (codes "/settlements") (peer_at C q).name also.named is)
one_target C Engine path Report (Correction q) valid is also = absurd (no_report path (codes "/corrections") (peer_at C q).name also.named is)
one_target C Engine path Report (Message q) valid is also = absurd (no_report path (codes "/messages") (peer_at C q).name also.named is)
one_target C Engine path Report Report valid is also = refl
one_target C Engine path Report Close valid is also = absurd (no_report_closes path is also)
one_target C Engine path Report Reload valid is also = absurd (no_report_reloads path is also)
one_target C Engine path Report (Pause q) valid is also = absurd (no_report path (codes "/pause") (peer_at C q).name also.named is)
one_target C Engine path Report (Resume q) valid is also = absurd (no_report path (codes "/resume") (peer_at C q).name also.named is)
one_target C Engine path Close Packet valid is also = absurd also
one_target C Engine path Close (Settlement q) valid is also = absurd (no_close path (codes "/settlements") (peer_at C q).name also.named is)
one_target C Engine path Close (Correction q) valid is also = absurd (no_close path (codes "/corrections") (peer_at C q).name also.named is)
one_target C Engine path Close (Message q) valid is also = absurd (no_close path (codes "/messages") (peer_at C q).name also.named is)
one_target C Engine path Close Report valid is also = absurd (no_report_closes path also is)
one_target C Engine path Close Close valid is also = refl
one_target C Engine path Close Reload valid is also = absurd (no_close_reloads path is also)
one_target C Engine path Close (Pause q) valid is also = absurd (no_close path (codes "/pause") (peer_at C q).name also.named is)
one_target C Engine path Close (Resume q) valid is also = absurd (no_close path (codes "/resume") (peer_at C q).name also.named is)
one_target C Engine path Reload Packet valid is also = absurd also
one_target C Engine path Reload (Settlement q) valid is also = absurd (no_reload path (codes "/settlements") (peer_at C q).name also.named is)
one_target C Engine path Reload (Correction q) valid is also = absurd (no_reload path (codes "/corrections") (peer_at C q).name also.named is)
one_target C Engine path Reload (Message q) valid is also = absurd (no_reload path (codes "/messages") (peer_at C q).name also.named is)
one_target C Engine path Reload Report valid is also = absurd (no_report_reloads path also is)
one_target C Engine path Reload Close valid is also = absurd (no_close_reloads path also is)
one_target C Engine path Reload Reload valid is also = refl
one_target C Engine path Reload (Pause q) valid is also = absurd (no_reload path (codes "/pause") (peer_at C q).name also.named is)
one_target C Engine path Reload (Resume q) valid is also = absurd (no_reload path (codes "/resume") (peer_at C q).name also.named is)
one_target C Engine path (Pause p) Packet valid is also = absurd also
one_target C Engine path (Pause p) (Settlement q) valid is also = absurd (no_settlement_pauses path (peer_at C q).name (peer_at C p).name also.named is.named)
one_target C Engine path (Pause p) (Correction q) valid is also = absurd (no_correction_pauses path (peer_at C q).name (peer_at C p).name also.named is.named)
one_target C Engine path (Pause p) (Message q) valid is also = absurd (no_message_pauses path (peer_at C q).name (peer_at C p).name also.named is.named)
one_target C Engine path (Pause p) Report valid is also = absurd (no_report path (codes "/pause") (peer_at C p).name is.named also)
one_target C Engine path (Pause p) Close valid is also = absurd (no_close path (codes "/pause") (peer_at C p).name is.named also)
one_target C Engine path (Pause p) Reload valid is also = absurd (no_reload path (codes "/pause") (peer_at C p).name is.named also)
one_target C Engine path (Pause p) (Pause q) valid is also = ap Pause (of_one_peer C valid (codes "/pause") path p q is also)
one_target C Engine path (Pause p) (Resume q) valid is also = absurd (no_pause_resumes path (peer_at C p).name (peer_at C q).name is.named also.named)
one_target C Engine path (Resume p) Packet valid is also = absurd also
one_target C Engine path (Resume p) (Settlement q) valid is also = absurd (no_settlement_resumes path (peer_at C q).name (peer_at C p).name also.named is.named)
one_target C Engine path (Resume p) (Correction q) valid is also = absurd (no_correction_resumes path (peer_at C q).name (peer_at C p).name also.named is.named)
one_target C Engine path (Resume p) (Message q) valid is also = absurd (no_message_resumes path (peer_at C q).name (peer_at C p).name also.named is.named)
one_target C Engine path (Resume p) Report valid is also = absurd (no_report path (codes "/resume") (peer_at C p).name is.named also)
one_target C Engine path (Resume p) Close valid is also = absurd (no_close path (codes "/resume") (peer_at C p).name is.named also)
one_target C Engine path (Resume p) Reload valid is also = absurd (no_reload path (codes "/resume") (peer_at C p).name is.named also)
one_target C Engine path (Resume p) (Pause q) valid is also = absurd (no_pause_resumes path (peer_at C q).name (peer_at C p).name also.named is.named)
one_target C Engine path (Resume p) (Resume q) valid is also = ap Resume (of_one_peer C valid (codes "/resume") path p q is also)

-- fields show the token of one peer
pub one_sender : (C : Configuration) (values : List (List ℕ)) (peer other : ℕ) → IsValid C → IsFrom C values peer → IsFrom C values other → peer ≡ other
one_sender C values peer other valid is also =
    let shown = subst (λ v. ShowsToken v (peer_at C other).token) (only_is values also.value is.value also.only is.only) also.shown in
    one_peer (λ x. x.token) C is.value valid.tokens peer other is.known also.known
    (token_is is.value (peer_at C peer).token (peer_at C other).token is.shown shown)
