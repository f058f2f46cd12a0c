-- Where an engine serves an account (RFC 0038), as the targets of requests (RFC 9112, section 3.2).
use Rattle.std.specs.Prelude.{ℕ, List, ◌++◌, codes}

-- the target of a call for an account, by its name
abbrev pub account_target : List ℕ → List ℕ → List ℕ
account_target call name = codes "/accounts/" ++ (name ++ call)

-- where the settlements of an account are posted (RFC 0038)
abbrev pub settlements_target : List ℕ → List ℕ
settlements_target name = account_target (codes "/settlements") name

-- where the messages of an account are posted (RFC 0038)
abbrev pub messages_target : List ℕ → List ℕ
messages_target name = account_target (codes "/messages") name
