-- A full segment: 2,048 bytes, a list of 64 entries and an extension of 8 capabilities. Its walk computes.
use Rattle.std.specs.Prelude.{Ok, Some, ◌≡◌, refl, true, ◌++◌, length, replicate}
use Rattle.rules.specs.Bytes.{Bytes, zeros}
use Rattle.rules.specs.Command.{READ}
use Rattle.rules.specs.Segment.{walk}
use Rattle.rules.specs.Samples.{sent}
use Rattle.rules.specs.Writer.{Request, segment_for}

pub request : Request
request =
    record {
      action = READ;
      partition = 0x10000;
      object = 0x10000;
      start = 0;
      size = 0;
      listed = true;
      offsets = replicate 64 0xFFFF;
      lengths = replicate 64 0x0101;
      capabilities = replicate 936 0x7F;
    }

pub full : Bytes
full = segment_for request ++ zeros 136

pub size : length full ≡ 2048
unfolding full request sent
size = refl

pub walked : walk full ≡ Ok (record { list = Some (record { at = 48; size = 1024 }); extension = Some (record { at = 1080; size = 832 }) })
unfolding full request sent
walked = refl
