-- What is known of a door between a call that gave an end and the one that finishes it.
use Rattle.std.proofs.Common.{arith, Option, Some, None, Ok}
use Rattle.ports.specs.Doors.{Ends, HasOut, HandsOut}

-- where an end went out, one is out
pub one_is_out : {E : Type 0} (F : Type 0) (old new : Option (Ends E)) (end : E) → HandsOut {E = E} {F = F} old new (Ok (Some end)) → HasOut new
one_is_out F None None end h = tt
one_is_out F None (Some y) end h = absurd h
one_is_out F (Some x) None end h = absurd h
one_is_out F (Some x) (Some y) end h = omega (arith, h.out)
