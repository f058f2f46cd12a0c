-- The texts of messages, piece by piece.
use Rattle.std.proofs.Common.{◌≡◌, ℕ, List, [], ◌++◌, length, ap, ◌∙◌, append_assoc}
use Rattle.std.specs.Prelude.{codes, decimal}
use Rattle.ilp_http.specs.Writing.{line, status_line, own_line, kind_line, kind_text, own_field, response_head, request_head, head_lines}
use Rattle.ilp_http.specs.declared.outgoing.Outgoing.{Outgoing}
use Rattle.ilp_http.specs.declared.status.Status.{Status}
use Rattle.ilp_http.specs.declared.status.Kind.{Kind}

head_pieces : (first own typed digits : List ℕ)
    → [] ++ (first ++ own) ++ (typed ++ codes "Content-Length: ") ++ digits ++ codes "\r\nConnection: close\r\n\r\n"
    ≡ first ++ own ++ typed ++ line (codes "Content-Length: " ++ digits) ++ line (codes "Connection: close") ++ line []
head_pieces first own typed digits = simp append_assoc

-- the pieces of a response's head, one after another
pub response_head-pieces : (status : Status) (kind : Kind) (body first typed digits : List ℕ)
    → first ≡ status_line status ++ own_line status → typed ≡ kind_line kind body ++ codes "Content-Length: " → digits ≡ decimal (length body)
    → [] ++ first ++ typed ++ digits ++ codes "\r\nConnection: close\r\n\r\n" ≡ response_head status kind body
response_head-pieces status kind body first typed digits a b c =
    let whole : List ℕ → List ℕ → List ℕ → List ℕ =
    λ (f : List ℕ) (t : List ℕ) (l : List ℕ). [] ++ f ++ t ++ l ++ codes "\r\nConnection: close\r\n\r\n" in
    let lines = status_line status ++ own_line status in
    let labelled = kind_line kind body ++ codes "Content-Length: " in
    ap (λ (x : List ℕ). whole x typed digits) a ∙ ap (λ (x : List ℕ). whole lines x digits) b ∙ ap (λ (x : List ℕ). whole lines labelled x) c
    ∙ head_pieces (status_line status) (own_line status) (kind_line kind body) (decimal (length body))

regrouped : (a b c d e f g h i j k l m n : List ℕ)
    → (a ++ (b ++ c)) ++ ((d ++ (e ++ f)) ++ ((g ++ (h ++ i)) ++ ((j ++ (k ++ l)) ++ (m ++ n))))
    ≡ a ++ b ++ c ++ (d ++ e ++ f) ++ (g ++ h ++ i) ++ (j ++ k ++ l) ++ m ++ n
regrouped a b c d e f g h i j k l m n = simp append_assoc

-- the lines of a request's head, one after another
pub head_lines-whole : (head : Outgoing) (n : ℕ) (kind size : List ℕ) → kind ≡ kind_text head.kind → size ≡ decimal n → head_lines head kind size ≡ request_head head n
head_lines-whole head n kind size k d =
    ap (λ text. head_lines head text size) k ∙ ap (head_lines head (kind_text head.kind)) d
    ∙ regrouped (codes "POST ") head.target.now (codes " HTTP/1.1\r\n") (codes "Host: ") head.host.now (codes "\r\n") (codes "Content-Type: ") (kind_text head.kind) (codes "\r\n")
    (codes "Content-Length: ") (decimal n) (codes "\r\n") (own_field head.own) (codes "Connection: close\r\n\r\n")

-- a text behind none, and its lines in other words
pub text-of : (none lines head body : List ℕ) → none ≡ [] → lines ≡ head → none ++ (lines ++ body) ≡ head ++ body
text-of none lines head body empty same = ap (λ xs. xs ++ (lines ++ body)) empty ∙ ap (λ xs. xs ++ body) same
