-- the digits so far were read
use Rattle.std.proofs.Common.{◌≡◌, length, take, true}
use Rattle.std.specs.Char.{is_ascii_digit}
use Rattle.std.specs.List.{list_all}
use Rattle.std.specs.Io.KnownBytes.{Consumes}
use Rattle.server.proofs.policy_source.frames.Frames.size.Given as goal

abbrev pub invariant-loop-place : goal.invariant-loop-place
invariant-loop-place g l = record {
  read : Consumes (g.S.Source.remaining l.fn.self.source) (g.S.Source.remaining l.self.source) (take l.place l.digits);
  whole : length l.digits ≡ 7;
  digits : list_all is_ascii_digit (take l.place l.digits) ≡ true;
  failed : g.S.Source.failed l.self.source ≡ g.S.Source.failed l.fn.self.source;
}
