-- How long the entries of the boundary cases are. Assumes nothing.
use mathlib.Core.Path.{◌≡◌, refl}
use lib.ListN.{length}
use Rattle.replay.specs.Run.{most_actions, too_many_actions, third_grows, too_long}

pub length_most : length most_actions ≡ 211
unfolding most_actions
length_most = refl

pub length_too_many : length too_many_actions ≡ 82
unfolding too_many_actions
length_too_many = refl

pub length_third : length third_grows ≡ 66
unfolding third_grows
length_third = refl

pub length_too_long : length too_long ≡ 16395
unfolding too_long
length_too_long = refl
