-- The numbers of the errors.
use Rattle.std.specs.Prelude.{ℕ}
use Rattle.ubus_broker.specs.declared.broker_error.BrokerError.{BrokerError}
use Rattle.ubus_broker.specs.declared.broker_error.BrokerError.TheVariants as error

abbrev pub number_of : BrokerError → ℕ
number_of error.Full = 60
number_of error.NoClient = 61
number_of error.Memory = 8
