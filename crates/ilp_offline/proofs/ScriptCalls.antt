-- The lines of a script book what their calls book, and each call is one that the book allows.
use Rattle.std.proofs.Common.{◌≡◌, ℕ, ◌<◌, ℤ, Bool, true, false, cond, List, [], ◌∷◌, ◌++◌, length, Option, Some, None, refl, sym, ap, ◌∙◌, subst, arith}
use Rattle.std.specs.Prelude.{Result, Ok, Err, IfSome, ⊤, ◌==◌, codes}
use Rattle.std.specs.List.{list_all}
use Rattle.std.specs.Str.{bytes_eq}
use Rattle.std.proofs.lemmas.Bool.Decides.{nat_tests}
use Rattle.std.proofs.lemmas.List.{length-map}
use Rattle.std.proofs.lemmas.List.Quantifiers.{position-Some}
use Rattle.hex.specs.Hex.{decode_of}
use Rattle.hex.specs.declared.error.FromHexError.{FromHexError}
use Rattle.ilp_packet.specs.declared.fault.PacketFault.{PacketFault}
use Rattle.ilp_packet.specs.Packet.{PlainPacket, prepare, fulfill, reject}
use Rattle.ilp_packet.specs.Reading.{reading}
use Rattle.ilp_settlement.specs.declared.quantity.Quantity.{Quantity}
use Rattle.ilp_settlement.specs.declared.quantity.QuantityFault.{QuantityFault}
use Rattle.ilp_settlement.specs.Quantity.{quantity_in}
use Rattle.ilp_journal.specs.Keys.{IsKey}
use Rattle.ilp_accounts.specs.Configuration.{Configuration, peer_names, place_named}
use Rattle.ilp_accounts.specs.Valid.{IsValid}
use Rattle.ilp_book.specs.Book.{PlainBook, new_book, with_entry}
use Rattle.ilp_settlement.specs.declared.verdict.EngineVerdict.{EngineVerdict}
use Rattle.ilp_book.specs.Lawful.{IsLawful}
use Rattle.ilp_book.specs.Run as run
use Rattle.ilp_book.specs.Run.{book_after, AreAllowed}
use Rattle.ilp_book.proofs.HoldSteps.{own_route}
use Rattle.ilp_book.proofs.Runs.{runs_lawful}
use Rattle.ilp_offline.specs.Script.{Form, hold, answer, expire, credit, ask, close, report, silent, bad, moment_in, entry_in, key_in, verdict_in, hold_form, answer_form, expire_form, credit_form, ask_form, close_form, form_of_fields, fields_of, form_of}
use Rattle.ilp_described.specs.Printable.{is_printable}
use Rattle.ilp_offline.specs.Replay.{hold_packet, hold_text, answer_text, credit_json, form_step, line_step, after_line, after_lines}
use Rattle.ilp_offline.specs.Calls.{calls_of_packet, calls_of_hold, calls_of_answer, calls_of_credit, calls_of_form, calls_of}

-- ---- what lines book

book_after-append : (book : PlainBook) (xs ys : List run.Step) → book_after book (xs ++ ys) ≡ book_after (book_after book xs) ys
book_after-append book [] ys = refl
book_after-append book (x ∷ xs) ys = book_after-append (run.after_step book x) xs ys

packet_books : (book : PlainBook) (now : ℤ) (peer : ℕ) (r : Result PlainPacket PacketFault)
    → with_entry book (hold_packet book now peer r).entry ≡ book_after book (calls_of_packet book.config now peer r)
packet_books book now peer (Ok (prepare p)) = refl
packet_books book now peer (Ok (fulfill f)) = refl
packet_books book now peer (Ok (reject r)) = refl
packet_books book now peer (Err fault) = refl

hold_books : (book : PlainBook) (now : ℤ) (peer : ℕ) (r : Result (List ℕ) FromHexError)
    → with_entry book (hold_text book now peer r).entry ≡ book_after book (calls_of_hold book.config now peer r)
hold_books book now peer (Ok octets) = packet_books book now peer (reading octets)
hold_books book now peer (Err fault) = refl

answer_books : (book : PlainBook) (now : ℤ) (number : ℕ) (r : Result (List ℕ) FromHexError)
    → with_entry book (answer_text book now number r).entry ≡ book_after book (calls_of_answer now number r)
answer_books book now number (Ok octets) = refl
answer_books book now number (Err fault) = refl

credit_books : (book : PlainBook) (now : ℤ) (peer : ℕ) (key : List ℕ) (r : Result Quantity QuantityFault)
    → with_entry book (credit_json book now peer key r).entry ≡ book_after book (calls_of_credit now peer key r)
credit_books book now peer key (Ok quantity) = refl
credit_books book now peer key (Err fault) = refl

form_books : (book : PlainBook) (form : Form) → with_entry book (form_step book form).entry ≡ book_after book (calls_of_form book.config form)
form_books book (hold now peer packet) = hold_books book now peer (decode_of packet)
form_books book (answer now number (Some packet)) = answer_books book now number (decode_of packet)
form_books book (answer now number None) = refl
form_books book (expire now) = refl
form_books book (credit now peer key json) = credit_books book now peer key (quantity_in json)
form_books book (ask now peer) = refl
form_books book (close now number verdict) = refl
form_books book report = refl
form_books book silent = refl
form_books book bad = refl

-- a book after lines is the one after their calls
pub lines_book : (book : PlainBook) (lines : List (List ℕ)) → after_lines book lines ≡ book_after book (calls_of book.config lines)
unfolding line_step
lines_book book [] = refl
lines_book book (line ∷ lines) =
    let form : Form = form_of (peer_names book.config.peers) line in
    let first : after_line book line ≡ book_after book (calls_of_form book.config form) = form_books book form in
    lines_book (after_line book line) lines
    ∙ ap (λ b. book_after b (calls_of book.config lines)) first
    ∙ sym (book_after-append book (calls_of_form book.config form) (calls_of book.config lines))

-- ---- what is allowed

AreAllowed-append : (C : Configuration) (xs ys : List run.Step) → AreAllowed C xs → AreAllowed C ys → AreAllowed C (xs ++ ys)
AreAllowed-append C [] ys x y = y
AreAllowed-append C (s ∷ xs) ys x y = (x.0, AreAllowed-append C xs ys x.1 y)

-- a form of so many peers: the peer that it names is one of them, and its key is one
abbrev IsOf : ℕ → Form → Type 0
IsOf peers (hold now peer packet) = peer < peers
IsOf peers (answer now number packet) = ⊤
IsOf peers (expire now) = ⊤
IsOf peers (credit now peer key json) = (peer < peers) × IsKey key
IsOf peers (ask now peer) = peer < peers
IsOf peers (close now number verdict) = ⊤
IsOf peers report = ⊤
IsOf peers silent = ⊤
IsOf peers bad = ⊤

chosen_is_of : (n : ℕ) (b : Bool) (one other : Form) → IsOf n one → IsOf n other → IsOf n (cond b one other)
chosen_is_of n true one other first second = first
chosen_is_of n false one other first second = second

hold_is_of : (n : ℕ) (now peer : Option ℕ) (text : List ℕ) → IfSome peer (λ p. p < n) → IsOf n (hold_form now peer text)
hold_is_of n None peer text known = tt
hold_is_of n (Some now) None text known = tt
hold_is_of n (Some now) (Some peer) [] known = tt
hold_is_of n (Some now) (Some peer) (digit ∷ digits) known = known

answer_is_of : (n : ℕ) (now number : Option ℕ) (text : List ℕ) → IsOf n (answer_form now number text)
answer_is_of n None number text = tt
answer_is_of n (Some now) None text = tt
answer_is_of n (Some now) (Some number) [] = tt
answer_is_of n (Some now) (Some number) (digit ∷ digits) = chosen_is_of n (bytes_eq (digit ∷ digits) (codes "none")) _ _ tt tt

expire_is_of : (n : ℕ) (now : Option ℕ) → IsOf n (expire_form now)
expire_is_of n None = tt
expire_is_of n (Some now) = tt

-- the key of a line is one
key_in_is : (text : List ℕ) → IfSome (key_in text) IsKey
key_in_is text = grind (arith, nat_tests)

credit_is_of : (n : ℕ) (now peer : Option ℕ) (key : Option (List ℕ)) (json : List ℕ) → IfSome peer (λ p. p < n) → IfSome key IsKey → IsOf n (credit_form now peer key json)
credit_is_of n None peer key json known is = tt
credit_is_of n (Some now) None key json known is = tt
credit_is_of n (Some now) (Some peer) None json known is = tt
credit_is_of n (Some now) (Some peer) (Some key) json known is = (known, is)

ask_is_of : (n : ℕ) (now peer : Option ℕ) → IfSome peer (λ p. p < n) → IsOf n (ask_form now peer)
ask_is_of n None peer known = tt
ask_is_of n (Some now) None known = tt
ask_is_of n (Some now) (Some peer) known = known

close_is_of : (n : ℕ) (now number : Option ℕ) (verdict : Option EngineVerdict) → IsOf n (close_form now number verdict)
close_is_of n None number verdict = tt
close_is_of n (Some now) None verdict = tt
close_is_of n (Some now) (Some number) None = tt
close_is_of n (Some now) (Some number) (Some verdict) = tt

-- the place of a name is one of them
named_within : (names : List (List ℕ)) (name : List ℕ) → IfSome (place_named names name) (λ p. p < length names)
named_within names name = of (place_named names name) (λ place is. (position-Some (bytes_eq name) names place name is).0)
  where
    of : (o : Option ℕ) → ((place : ℕ) → o ≡ Some place → place < length names) → IfSome o (λ p. p < length names)
    of None within = tt
    of (Some place) within = within place refl

fields_are_of : (names : List (List ℕ)) (fields : List (List ℕ)) → IsOf (length names) (form_of_fields names fields)
fields_are_of names [] = tt
fields_are_of names (word ∷ []) = chosen_is_of (length names) (bytes_eq word (codes "report")) report bad tt tt
fields_are_of names (word ∷ now ∷ []) = chosen_is_of (length names) (bytes_eq word (codes "expire")) (expire_form (moment_in now)) bad (expire_is_of (length names) (moment_in now)) tt
fields_are_of names (word ∷ now ∷ peer ∷ []) =
    chosen_is_of (length names) (bytes_eq word (codes "ask")) _ bad (ask_is_of (length names) (moment_in now) (place_named names peer) (named_within names peer)) tt
fields_are_of names (word ∷ now ∷ third ∷ fourth ∷ []) =
    chosen_is_of (length names) (bytes_eq word (codes "hold")) _ _ (hold_is_of (length names) (moment_in now) (place_named names third) fourth (named_within names third))
    (chosen_is_of (length names) (bytes_eq word (codes "answer")) _ _ (answer_is_of (length names) (moment_in now) (entry_in third) fourth)
    (chosen_is_of (length names) (bytes_eq word (codes "close")) _ bad (close_is_of (length names) (moment_in now) (entry_in third) (verdict_in fourth)) tt))
fields_are_of names (word ∷ now ∷ peer ∷ key ∷ json ∷ []) =
    chosen_is_of (length names) (bytes_eq word (codes "credit")) _ bad
    (credit_is_of (length names) (moment_in now) (place_named names peer) (key_in key) json (named_within names peer) (key_in_is key)) tt
fields_are_of names (word ∷ now ∷ peer ∷ key ∷ json ∷ more ∷ rest) = tt

form_is_of : (names : List (List ℕ)) (line : List ℕ) → IsOf (length names) (form_of names line)
form_is_of names [] = tt
form_is_of names (octet ∷ octets) =
    chosen_is_of (length names) (octet == 35) silent _ tt
    (chosen_is_of (length names) (list_all is_printable (octet ∷ octets)) _ bad (fields_are_of names (fields_of (octet ∷ octets))) tt)

packet_allowed : (C : Configuration) (now : ℤ) (peer : ℕ) (r : Result PlainPacket PacketFault) → peer < length C.peers → AreAllowed C (calls_of_packet C now peer r)
packet_allowed C now peer (Ok (prepare p)) known = ((known, own_route C peer p), tt)
packet_allowed C now peer (Ok (fulfill f)) known = tt
packet_allowed C now peer (Ok (reject r)) known = tt
packet_allowed C now peer (Err fault) known = tt

hold_allowed : (C : Configuration) (now : ℤ) (peer : ℕ) (r : Result (List ℕ) FromHexError) → peer < length C.peers → AreAllowed C (calls_of_hold C now peer r)
hold_allowed C now peer (Ok octets) known = packet_allowed C now peer (reading octets) known
hold_allowed C now peer (Err fault) known = tt

answer_allowed : (C : Configuration) (now : ℤ) (number : ℕ) (r : Result (List ℕ) FromHexError) → AreAllowed C (calls_of_answer now number r)
answer_allowed C now number (Ok octets) = (tt, tt)
answer_allowed C now number (Err fault) = tt

credit_allowed : (C : Configuration) (now : ℤ) (peer : ℕ) (key : List ℕ) (r : Result Quantity QuantityFault) → peer < length C.peers → IsKey key → AreAllowed C (calls_of_credit now peer key r)
credit_allowed C now peer key (Ok quantity) known is = ((known, is), tt)
credit_allowed C now peer key (Err fault) known is = tt

form_allowed : (C : Configuration) (form : Form) → IsOf (length C.peers) form → AreAllowed C (calls_of_form C form)
form_allowed C (hold now peer packet) known = hold_allowed C now peer (decode_of packet) known
form_allowed C (answer now number (Some packet)) known = answer_allowed C now number (decode_of packet)
form_allowed C (answer now number None) known = (tt, tt)
form_allowed C (expire now) known = (tt, tt)
form_allowed C (credit now peer key json) known = credit_allowed C now peer key (quantity_in json) known.0 known.1
form_allowed C (ask now peer) known = (known, tt)
form_allowed C (close now number verdict) known = (tt, tt)
form_allowed C report known = tt
form_allowed C silent known = tt
form_allowed C bad known = tt

-- the calls of a script are of known peers, and by their destinations' own routes
pub lines_allowed : (C : Configuration) (lines : List (List ℕ)) → AreAllowed C (calls_of C lines)
lines_allowed C [] = tt
lines_allowed C (line ∷ lines) =
    let form : Form = form_of (peer_names C.peers) line in
    AreAllowed-append C (calls_of_form C form) (calls_of C lines)
    (form_allowed C form (subst (λ n. IsOf n form) (length-map C.peers (λ p. p.name)) (form_is_of (peer_names C.peers) line))) (lines_allowed C lines)

-- so a script leaves a lawful book
pub lines_lawful : (C : Configuration) (lines : List (List ℕ)) → IsValid C → IsLawful (after_lines (new_book C) lines)
lines_lawful C lines valid = subst IsLawful (sym (lines_book (new_book C) lines)) (runs_lawful C (calls_of C lines) valid (lines_allowed C lines))
