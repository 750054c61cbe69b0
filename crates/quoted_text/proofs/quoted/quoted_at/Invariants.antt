use Rattle.std.proofs.Common.{◌≡◌, length}
use Rattle.quoted_text.specs.declared.quoted.Within.TheVariants.{Plain}
use Rattle.quoted_text.specs.Quoted.{quoted_at}
use Rattle.quoted_text.proofs.Quoting.{with_front}
use Rattle.quoted_text.proofs.quoted.quoted_at.Given as goal

abbrev pub invariant-each : goal.invariant-each
invariant-each l = with_front l.out.items (quoted_at l.quote l.within l.rest) ≡ quoted_at l.quote Plain l.bytes

abbrev pub decreases-each : goal.decreases-each
decreases-each l = length l.rest
