use Rattle.c_front.proofs.headers_over.expand_over.Given as goal

abbrev pub ghosts-expand_lent : goal.ghosts-expand_lent
ghosts-expand_lent g a = record { lender = a.files.ghost_name; holding = g.F.Reads.held a.files.now }
