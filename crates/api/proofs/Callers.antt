-- What those who write a head have to show of its status.
use Rattle.std.proofs.Common.{refl, lit<}
use Rattle.api.specs.declared.bad.BadWhy.{BadWhy}
use Rattle.api.specs.declared.bad.BadWhy.TheVariants as why
use Rattle.api.specs.Statuses.{IsStatus, status_of}

pub is_200 : IsStatus 200
is_200 = (0, lit< tt, refl)

pub is_201 : IsStatus 201
is_201 = (1, lit< tt, refl)

pub is_400 : IsStatus 400
is_400 = (2, lit< tt, refl)

pub is_404 : IsStatus 404
is_404 = (3, lit< tt, refl)

pub is_405 : IsStatus 405
is_405 = (4, lit< tt, refl)

pub is_409 : IsStatus 409
is_409 = (5, lit< tt, refl)

pub is_411 : IsStatus 411
is_411 = (6, lit< tt, refl)

pub is_413 : IsStatus 413
is_413 = (7, lit< tt, refl)

pub is_422 : IsStatus 422
is_422 = (8, lit< tt, refl)

pub is_431 : IsStatus 431
is_431 = (9, lit< tt, refl)

pub is_501 : IsStatus 501
is_501 = (10, lit< tt, refl)

pub is_503 : IsStatus 503
is_503 = (11, lit< tt, refl)

pub is_507 : IsStatus 507
is_507 = (12, lit< tt, refl)

-- a refused request has one of the statuses
pub status_is_known : (w : BadWhy) → IsStatus (status_of w)
status_is_known why.Head = is_400
status_is_known why.HeadSize = is_431
status_is_known why.Coding = is_501
status_is_known why.Length = is_400
status_is_known why.Route = is_404
status_is_known why.Method = is_405
status_is_known why.Name = is_400
status_is_known why.NoLength = is_411
status_is_known why.BodySize = is_413
status_is_known why.Short = is_400
status_is_known why.Body = is_400
