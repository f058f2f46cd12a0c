use Rattle.ilp_journal_file.proofs.comparing.has_text.Given as goal

-- the text's own name
abbrev pub ghosts-is_text_of : goal.ghosts-is_text_of
ghosts-is_text_of g a = record { text = a.text.now }
