use Rattle.clnp_options.proofs.Found.{found_known, known_route, known_recording, known_reason}
use Rattle.clnp_options.proofs.laws.known_values.Goals as goal

pub returns-clause-known : goal.returns-clause-known
returns-clause-known c = λ kind octets value options code is found. found_known kind options code value is.allowed.known found

pub returns-clause-route : goal.returns-clause-route
returns-clause-route c = λ kind octets value options is found. known_route kind value (found_known kind options 0xc8 value is.allowed.known found)

pub returns-clause-recording : goal.returns-clause-recording
returns-clause-recording c = λ kind octets value options is found. known_recording kind value (found_known kind options 0xcb value is.allowed.known found)

pub returns-clause-reason : goal.returns-clause-reason
returns-clause-reason c = λ kind octets value options is found. known_reason kind value (found_known kind options 0xc1 value is.allowed.known found)
