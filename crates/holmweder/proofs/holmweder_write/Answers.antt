-- `holmweder::holmweder_write` meets its contract.
use Rattle.std.specs.Prelude.{not, eqb}
use Rattle.holmweder.proofs.Face.{wrote_as}
use Rattle.holmweder.proofs.holmweder_write.Goals as goal

pub returns : goal.returns
returns c =
    let a = c.args in
    let told = c.number_and_length-number.ensures in
    wrote_as
    (record {
      action = a.action;
      partition = a.partition;
      object = a.object;
      start = a.start;
      size = a.size;
      list = c.then_some.result;
      capabilities = a.capabilities;
    })
    (record { offsets = a.offsets; lengths = a.lengths })
    (not (eqb a.listed 0))
    _
    _
    c.then_some.ensures
    c.write_command.ensures
    told.number
    told.length
