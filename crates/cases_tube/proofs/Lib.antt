mod Goes
