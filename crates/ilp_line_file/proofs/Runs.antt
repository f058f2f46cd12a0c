-- What a crash leaves during a run of calls on a file of lines.
use Rattle.std.proofs.Common.{◌≡◌, ℕ, ◌≤◌, List, ◌++◌, length, take, ap, subst}
use Rattle.ilp_line_file.specs.Device.{Only, Follows, Torn, Cut, Elapses, LeavesOnly}
use Rattle.ilp_line_file.specs.Text.{recovered, text_of, IsText, IsBlank, IsBetween}
use Rattle.ilp_line_file.specs.File.{IsSettled}
use Rattle.ilp_line_file.specs.declared.line_file.LineFile.{LineFile}
use Rattle.ilp_line_file.proofs.Moments.{started, goes_on}
use Rattle.ilp_line_file.proofs.Growing.{Ready, Settled, torn, zeros_torn, itself}
use Rattle.ilp_line_file.proofs.Mending.{cut_keeps}

module _ {D : Type 0} (seen : D → List ℕ) (may_leave : D → List ℕ → Type 0) (moment : D → ℕ) (left_since : D → ℕ → List ℕ → Type 0) where
  -- a crash at any moment of the run left what has P, and so does one now
  pub record Leaves (old new : D) (P : List ℕ → Type 0) : Type 0 where
    pub so_far : LeavesOnly moment left_since old new P
    pub now : (c : List ℕ) → may_leave new c → P c

  -- ---- one call

  -- before the first
  pub none_yet : (old : D) (P : List ℕ → Type 0) → ((c : List ℕ) → left_since old (moment old) c → may_leave old c) → ((c : List ℕ) → may_leave old c → P c) → Leaves old old P
  none_yet old P only_now here = record { so_far = started moment left_since old P (λ c left. here c (only_now c left)); now = here }

  -- one that changes nothing, as a read and a sync
  pub no_more : (old mid new : D) (P : List ℕ → Type 0) → Leaves old mid P → Elapses (moment mid) (moment new) (left_since mid) (left_since new) (may_leave new)
      → ((c : List ℕ) → may_leave new c → may_leave mid c) → Leaves old new P
  no_more old mid new P was time crash =
      let here = λ (c : List ℕ) (now : may_leave new c). was.now c (crash c now) in
      record { so_far = goes_on moment left_since old mid new P (may_leave new) was.so_far time here; now = here }

  -- one that takes a step
  by_step : (step : List ℕ → List ℕ → Type 0) (old mid new : D) (P : List ℕ → Type 0) → Leaves old mid P → Elapses (moment mid) (moment new) (left_since mid) (left_since new) (may_leave new)
      → Follows step (may_leave mid) (may_leave new) → ((d c : List ℕ) → may_leave mid d → step d c → P c) → Leaves old new P
  by_step step old mid new P was time crash leads =
      let here = λ (c : List ℕ) (now : may_leave new c). let from = crash c now in leads from.0 c from.1 from.2 in
      record { so_far = goes_on moment left_since old mid new P (may_leave new) was.so_far time here; now = here }

  -- ---- a write of lines and of zeros, and a cut

  ready : (file : LineFile D) (text : List ℕ) → IsSettled seen may_leave file → IsText text → Ready (seen file.device) file.end text
  ready file text s whole = record { within = s.within; begins = s.text; blank = s.blank; whole = whole }

  settled : (file : LineFile D) → IsSettled seen may_leave file → Settled (seen file.device) file.end
  settled file s = record { within = s.within; begins = s.text; blank = s.blank }

  pub writes : (file : LineFile D) (new : D) (text : List ℕ) → IsSettled seen may_leave file → IsText text
      → ((c : List ℕ) → left_since file.device (moment file.device) c → may_leave file.device c)
      → Elapses (moment file.device) (moment new) (left_since file.device) (left_since new) (may_leave new) → Follows (Torn file.end text) (may_leave file.device) (may_leave new)
      → Leaves file.device new (IsBetween (recovered (seen file.device)) (recovered (seen file.device) ++ recovered text))
  writes file new text s whole only_now time crash =
      let f = seen file.device in
      let P = IsBetween (recovered f) (recovered f ++ recovered text) in
      let first = none_yet file.device P only_now (λ c now. itself (recovered f) (recovered text) c (ap recovered (s.durable c now))) in
      by_step (Torn file.end text) file.device file.device new P first time crash
      (λ d c was is. torn f file.end text c (ready file text s whole) (subst (λ x. Torn file.end text x c) (s.durable d was) is))

  pub blanks : (file : LineFile D) (new : D) (zeros : List ℕ) → IsSettled seen may_leave file → IsBlank zeros
      → ((c : List ℕ) → left_since file.device (moment file.device) c → may_leave file.device c)
      → Elapses (moment file.device) (moment new) (left_since file.device) (left_since new) (may_leave new) → Follows (Torn file.end zeros) (may_leave file.device) (may_leave new)
      → Leaves file.device new (λ c. recovered c ≡ recovered (seen file.device))
  blanks file new zeros s blank only_now time crash =
      let f = seen file.device in
      let P : List ℕ → Type 0 = λ c. recovered c ≡ recovered f in
      let first = none_yet file.device P only_now (λ c now. ap recovered (s.durable c now)) in
      by_step (Torn file.end zeros) file.device file.device new P first time crash
      (λ d c was is. zeros_torn f file.end zeros c (settled file s) blank (subst (λ x. Torn file.end zeros x c) (s.durable d was) is))

  pub cuts : (old mid new : D) (end : ℕ) → Only (seen old) (may_leave old) → Leaves old mid (λ c. recovered c ≡ recovered (seen old)) → ((c : List ℕ) → may_leave mid c → may_leave old c)
      → end ≤ length (seen old) → take end (seen old) ≡ text_of (recovered (seen old))
      → Elapses (moment mid) (moment new) (left_since mid) (left_since new) (may_leave new) → Follows (Cut end) (may_leave mid) (may_leave new)
      → Leaves old new (λ c. recovered c ≡ recovered (seen old))
  cuts old mid new end durable was no_more within text time crash =
      by_step (Cut end) old mid new _ was time crash (λ d c left is. cut_keeps (seen old) end c within text (subst (λ x. Cut end x c) (durable d (no_more d left)) is))
