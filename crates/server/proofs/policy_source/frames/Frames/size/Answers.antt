use Rattle.std.proofs.Common.{rules, arith, ◌≡◌, ◌<◌, length, length-take-le, take, inr, refl}
use Rattle.server.proofs.policy_source.Grammar.{bad_piece, consumes_more, digits_more, no_size_other, read_more, sized_by}
use Rattle.server.proofs.policy_source.frames.Frames.size.Goals as goal

pub returns-in-LineFeed-clause-read : goal.returns-in-LineFeed-clause-read
returns-in-LineFeed-clause-read g c = sized_by _ _ _ _ (take c.loop-place.place c.loop-place.digits) c.size_of.result c.loop-place.invariant.digits (search rules) c.loop-place.invariant.read c.in-LineFeed.ensures.read c.size_of.ensures

pub returns-in-Other-clause-read : goal.returns-in-Other-clause-read
returns-in-Other-clause-read g c =
    let other = c.in-Other.ensures.read in
    inr (no_size_other _ _ (take c.loop-place.place c.loop-place.digits) other.0 c.loop-place.invariant.digits other.1 other.2 (consumes_more _ _ _ _ _ c.loop-place.invariant.read other.3))

pub loop-place-preserved : goal.loop-place-preserved
loop-place-preserved g c =
    let within : c.loop-place.place < length c.loop-place.digits = omega (arith, c.loop-place.invariant.whole, c.loop-place-test.true) in
    record {
      read = read_more _ _ _ c.loop-place.digits c.loop-place.place _ c.in-Digit.digit refl within c.loop-place.invariant.read c.in-Digit.ensures.read.1;
      whole = search rules;
      digits = digits_more c.loop-place.digits c.loop-place.place _ c.in-Digit.digit refl within c.loop-place.invariant.digits c.in-Digit.ensures.read.0;
      failed = search rules;
    }

pub returns-in_default : goal.returns-in_default
returns-in_default g c =
    let seven : length (take c.loop-place.place c.loop-place.digits) ≡ 7 =
    omega (arith, c.loop-place.invariant.whole, c.loop-place-test.false, c.loop-place.auto.place-end, length-take-le c.loop-place.place c.loop-place.digits (omega (arith, c.loop-place.invariant.whole, c.loop-place.auto.place-end))) in
    record {
      read = bad_piece _ _ _ _ (take c.loop-place.place c.loop-place.digits) c.piece-2.result c.loop-place.invariant.digits seven c.loop-place.invariant.read c.in_default.not-LineFeed c.piece-2.ensures.read;
      failed = search rules;
    }
