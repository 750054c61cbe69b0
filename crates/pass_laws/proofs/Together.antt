-- The laws from their parts.
use Rattle.pass_laws.specs.Meeting.{PassesMeet, StraightStays}
use Rattle.pass_laws.proofs.Chain as chain
use Rattle.pass_laws.proofs.FrameChain.{frames_fit}

pub meet : PassesMeet
meet p m r settled cs x names items l w o a c e = record {
  keeps = chain.settled_keeps p m r settled cs x names items l w o c e;
  follows = chain.follows p m r settled cs x names items l w o c e;
  does = λ words labels stands. record {
    agrees = chain.agrees p m r settled cs x names items l w o c e words labels stands;
    fits = frames_fit p m r settled cs x l w o a c;
    small = chain.small p m r settled cs x names items l w o c e words labels stands;
  };
  fits = frames_fit p m r settled cs x l w o a c;
  small = chain.items_small p m r settled cs x names items l w o c e;
}

pub stays : StraightStays
stays s f g h k a b c none = chain.straight s f g h k a b c none
