use Rattle.c_compile.proofs.sharing.upwards.may_stand.Given as goal

abbrev pub decreases-loop-j : goal.decreases-loop-j
decreases-loop-j l = l.j
