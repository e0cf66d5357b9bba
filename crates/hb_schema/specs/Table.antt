-- The table of the messages: of Cilium's `flow/flow.proto`, `observer/observer.proto`,
-- `relay/relay.proto` and `peer/peer.proto`, and of `google/protobuf/timestamp.proto` and
-- `wrappers.proto`. A field that is not named here is not known. Enums are int32.
use Rattle.std.specs.Prelude.{List, [], ◌∷◌, true, false}
use Rattle.hb_schema.specs.Rows.{U32, U64, I32, I64, Flag, Row, Done, Number, Numbers, Text, Texts, Message, Messages, Raw}

-- ---- google.protobuf

-- seconds, nanos
abbrev pub timestamp_row : Row
timestamp_row = Number 1 I64 (Number 2 I32 (Done false))

-- value
abbrev pub uint32_value_row : Row
uint32_value_row = Number 1 U32 (Done false)

-- value
abbrev pub int32_value_row : Row
int32_value_row = Number 1 I32 (Done false)

-- value
abbrev pub bool_value_row : Row
bool_value_row = Number 1 Flag (Done false)

-- ---- flow

-- source, destination
abbrev pub ethernet_row : Row
ethernet_row = Text 1 (Text 2 (Done true))

-- source, destination, ipVersion, encrypted
abbrev pub ip_row : Row
ip_row = Text 1 (Text 2 (Number 3 I32 (Number 4 Flag (Done true))))

-- FIN, SYN, RST, PSH, ACK, URG, ECE, CWR, NS
abbrev pub tcp_flags_row : Row
tcp_flags_row = Number 1 Flag (Number 2 Flag (Number 3 Flag (Number 4 Flag (Number 5 Flag
    (Number 6 Flag (Number 7 Flag (Number 8 Flag (Number 9 Flag (Done true)))))))))

-- source_port, destination_port, flags
abbrev pub tcp_row : Row
tcp_row = Number 1 U32 (Number 2 U32 (Message 3 [] tcp_flags_row (Done true)))

-- source_port, destination_port: of UDP and SCTP
abbrev pub ports_row : Row
ports_row = Number 1 U32 (Number 2 U32 (Done true))

-- type, code: of ICMPv4 and ICMPv6
abbrev pub icmp_row : Row
icmp_row = Number 1 U32 (Number 2 U32 (Done true))

-- one of TCP, UDP, ICMPv4, ICMPv6, SCTP
abbrev pub layer4_row : Row
layer4_row = Message 1 (2 ∷ 3 ∷ 4 ∷ 5 ∷ []) tcp_row (Message 2 (1 ∷ 3 ∷ 4 ∷ 5 ∷ []) ports_row
    (Message 3 (1 ∷ 2 ∷ 4 ∷ 5 ∷ []) icmp_row (Message 4 (1 ∷ 2 ∷ 3 ∷ 5 ∷ []) icmp_row
    (Message 5 (1 ∷ 2 ∷ 3 ∷ 4 ∷ []) ports_row (Done true)))))

-- name, kind
abbrev pub workload_row : Row
workload_row = Text 1 (Text 2 (Done true))

-- ID, identity, namespace, labels, pod_name, workloads
abbrev pub endpoint_row : Row
endpoint_row = Number 1 U32 (Number 2 U32 (Text 3 (Texts 4 (Text 5 (Messages 6 workload_row
    (Done true))))))

-- name, namespace
abbrev pub service_row : Row
service_row = Text 1 (Text 2 (Done true))

-- type, sub_type
abbrev pub cilium_event_type_row : Row
cilium_event_type_row = Number 1 I32 (Number 2 I32 (Done true))

-- query, ips, ttl, cnames, observation_source, rcode, qtypes, rrtypes
abbrev pub dns_row : Row
dns_row = Text 1 (Texts 2 (Number 3 U32 (Texts 4 (Text 5 (Number 6 U32 (Texts 7 (Texts 8
    (Done true))))))))

-- key, value
abbrev pub header_row : Row
header_row = Text 1 (Text 2 (Done true))

-- code, method, url, protocol, headers
abbrev pub http_row : Row
http_row = Number 1 U32 (Text 2 (Text 3 (Text 4 (Messages 5 header_row (Done true)))))

-- type, latency_ns, and one of dns, http, kafka, which is not looked into
abbrev pub layer7_row : Row
layer7_row = Number 1 I32 (Number 2 U64 (Message 100 (101 ∷ 102 ∷ []) dns_row
    (Message 101 (100 ∷ 102 ∷ []) http_row (Raw 102 (100 ∷ 101 ∷ []) (Done true)))))

-- time, verdict, ethernet, IP, l4, source, destination, Type, node_name, source_names,
-- destination_names, l7, event_type, source_service, destination_service, traffic_direction,
-- trace_observation_point, drop_reason_desc, is_reply, uuid
abbrev pub flow_row : Row
flow_row = Message 1 [] timestamp_row (Number 2 I32 (Message 4 [] ethernet_row (Message 5 [] ip_row
    (Message 6 [] layer4_row (Message 8 [] endpoint_row (Message 9 [] endpoint_row (Number 10 I32
    (Text 11 (Texts 13 (Texts 14 (Message 15 [] layer7_row (Message 19 [] cilium_event_type_row
    (Message 20 [] service_row (Message 21 [] service_row (Number 22 I32 (Number 24 I32
    (Number 25 I32 (Message 26 [] bool_value_row (Text 34 (Done true))))))))))))))))))))

-- source, num_events_lost, cpu
abbrev pub lost_event_row : Row
lost_event_row = Number 1 I32 (Number 2 U64 (Message 3 [] int32_value_row (Done true)))

-- type, match_sub_type, sub_type
abbrev pub event_type_filter_row : Row
event_type_filter_row = Number 1 I32 (Number 2 Flag (Number 3 I32 (Done true)))

-- source_ip, source_pod, destination_ip, destination_pod, verdict, event_type, source_fqdn,
-- destination_fqdn, http_status_code, source_label, destination_label, protocol, source_port,
-- destination_port, reply, source_service, destination_service, dns_query, source_identity,
-- destination_identity, http_method, http_path, tcp_flags, node_name, ip_version, uuid,
-- traffic_direction
abbrev pub flow_filter_row : Row
flow_filter_row = Texts 1 (Texts 2 (Texts 3 (Texts 4 (Numbers 5 I32
    (Messages 6 event_type_filter_row (Texts 7 (Texts 8 (Texts 9 (Texts 10 (Texts 11
    (Texts 12 (Texts 13 (Texts 14
    (Numbers 15 Flag (Texts 16 (Texts 17 (Texts 18 (Numbers 19 U32 (Numbers 20 U32 (Texts 21
    (Texts 22 (Messages 23 tcp_flags_row (Texts 24 (Numbers 25 I32 (Texts 29 (Numbers 30 I32
    (Done true)))))))))))))))))))))))))))

-- ---- observer, relay and peer

-- state_change, node_names, message
abbrev pub node_status_event_row : Row
node_status_event_row = Number 1 I32 (Texts 2 (Text 3 (Done true)))

-- number, follow, blacklist, whitelist, since, until, first
abbrev pub get_flows_request_row : Row
get_flows_request_row = Number 1 U64 (Number 3 Flag (Messages 5 flow_filter_row
    (Messages 6 flow_filter_row (Message 7 [] timestamp_row (Message 8 [] timestamp_row
    (Number 9 Flag (Done true)))))))

-- one of flow, node_status, lost_events; node_name, time
abbrev pub get_flows_response_row : Row
get_flows_response_row = Message 1 (2 ∷ 3 ∷ []) flow_row
    (Message 2 (1 ∷ 3 ∷ []) node_status_event_row (Message 3 (1 ∷ 2 ∷ []) lost_event_row
    (Text 1000 (Message 1001 [] timestamp_row (Done true)))))

-- num_flows, max_flows, seen_flows, uptime_ns, num_connected_nodes, num_unavailable_nodes,
-- unavailable_nodes, version
abbrev pub server_status_response_row : Row
server_status_response_row = Number 1 U64 (Number 2 U64 (Number 3 U64 (Number 4 U64
    (Message 5 [] uint32_value_row (Message 6 [] uint32_value_row (Texts 7 (Text 8
    (Done true))))))))

-- name, version, address, state, uptime_ns, num_flows, max_flows, seen_flows
abbrev pub node_row : Row
node_row = Text 1 (Text 2 (Text 3 (Number 4 I32 (Number 6 U64 (Number 7 U64 (Number 8 U64
    (Number 9 U64 (Done true))))))))

-- nodes
abbrev pub get_nodes_response_row : Row
get_nodes_response_row = Messages 1 node_row (Done true)

-- name, address, type
abbrev pub change_notification_row : Row
change_notification_row = Text 1 (Text 2 (Number 3 I32 (Done true)))

-- ---- the table

-- all rows: the well-known ones, and then by the services from the requests down
abbrev pub table : List Row
table = timestamp_row ∷ uint32_value_row ∷ int32_value_row ∷ bool_value_row
    ∷ get_flows_request_row ∷ get_flows_response_row ∷ server_status_response_row
    ∷ get_nodes_response_row ∷ node_row ∷ node_status_event_row ∷ change_notification_row
    ∷ lost_event_row ∷ flow_row ∷ ethernet_row ∷ ip_row ∷ layer4_row ∷ tcp_row ∷ ports_row
    ∷ tcp_flags_row ∷ icmp_row ∷ endpoint_row ∷ workload_row ∷ service_row
    ∷ cilium_event_type_row ∷ layer7_row ∷ dns_row ∷ http_row ∷ header_row ∷ flow_filter_row
    ∷ event_type_filter_row ∷ []
