-- How ports lie in their places.
use Rattle.xs_model.specs.Record.{PortRec}
use Rattle.single_port.specs.declared.port.Port.TheInside as port
use Rattle.single_port.specs.Keeps.{PortOf}
use Rattle.single_port.specs.States.{condition_of}

abbrev pub port_in : port.Inside → PortRec
port_in c = record {
  on = c.on;
  output = c.output;
  clock = c.clock;
  counter = c.counter;
  buffered = c.buffered;
  transfer_width = c.transfer_width;
  wanted = c.wanted;
  value = c.value;
  condition = condition_of c.condition;
  time = c.time;
  shift = c.shift.bits;
  transfer = c.transfer;
  held = c.held;
  sample_stamp = c.sample_stamp;
  stamp = c.stamp;
  strobe = c.strobe;
  driven = c.driven;
}

abbrev pub port_of_width : port.Inside → PortOf
port_of_width c = record { width = c.shift.width; port = port_in c }
